-- A table's rule, from one test that is computed over all of its entries.
--     everywhere   the rule holds at each entry and its place, counted from i: the test
--     at_entry     what the test gives at the entry k
-- Assumes nothing.
use Prim.Native.Nat.{ℕ, zero, suc, ◌+◌, ◌<◌}
use mathlib.Core.Path.{◌≡◌, refl, sym, ap, ◌∙◌}
use mathlib.Core.Bool.{Bool, true, false, ◌&&◌, false≢true}
use mathlib.Core.List.{List, [], ◌∷◌}
use native.Mathlib.Nat.{add-zero, zero-add}
use native.Mathlib.Omega.{arith}
use lib.ListN.{length, get_or}

abbrev pub everywhere : (ℕ → ℕ → Bool) → ℕ → List ℕ → Bool
everywhere rule i [] = true
everywhere rule i (x ∷ xs) = rule i x && everywhere rule (suc i) xs

first_of : (a b : Bool) → a && b ≡ true → a ≡ true
first_of true b e = refl
first_of false b e = absurd (false≢true e)

rest_of : (a b : Bool) → a && b ≡ true → b ≡ true
rest_of true b e = e
rest_of false b e = absurd (false≢true e)

from :
    (rule : ℕ → ℕ → Bool) (xs : List ℕ) (i : ℕ)
    → everywhere rule i xs ≡ true
    → (k : ℕ)
    → k < length xs
    → rule (i + k) (get_or xs k 0) ≡ true
from rule [] i test k below = absurd (omega arith)
from rule (x ∷ xs) i test zero below = rw add-zero (first_of (rule i x) (everywhere rule (suc i) xs) test)
from rule (x ∷ xs) i test (suc k) below =
    ap (λ (j : ℕ). rule j (get_or xs k 0)) (omega arith)
    ∙ from rule xs (suc i) (rest_of (rule i x) (everywhere rule (suc i) xs) test) k (omega arith)

pub at_entry : (rule : ℕ → ℕ → Bool) (xs : List ℕ) → everywhere rule 0 xs ≡ true → (k : ℕ) → k < length xs → rule k (get_or xs k 0) ≡ true
at_entry rule xs test k below = ap (λ (j : ℕ). rule j (get_or xs k 0)) (sym (zero-add k)) ∙ from rule xs 0 test k below
