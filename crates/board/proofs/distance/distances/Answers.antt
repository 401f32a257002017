-- `board::distance::distances` meets its contract: the table's rule is tested at each of its 256 entries, and carried to each pair of
-- cells. Assumes nothing.
use Prim.Native.Nat.{ℕ, ◌+◌, ◌*◌, ◌/◌, ◌%◌, ◌<◌}
use mathlib.Core.Path.{◌≡◌, refl, ap, ◌∙◌}
use mathlib.Core.Bool.{Bool}
use mathlib.Core.List.{List}
use native.Mathlib.Omega.{arith}
use lib.Dec.{eqb}
use lib.ListN.{length, get_or}
use borrow.Author.Tests.{eqb-true}
use Rattle.board.specs.Distance.{DistanceTable, between_four}
use Rattle.board.proofs.code.Entries.{everywhere, at_entry}
use Rattle.board.proofs.distance.distances.Goals as goal

-- the rule of entry k: the distance between cell k / 16 and cell k % 16
abbrev rule : ℕ → ℕ → Bool
rule k x = eqb x (between_four (k / 16) (k % 16))

ruled : (table : List ℕ) → length table ≡ 256 → everywhere rule 0 table ≡ mathlib.Core.Bool.true → DistanceTable table
ruled table long test = record { long = long; entry = λ a c below-a below-c. of_pair a c below-a below-c }
  where
    of_pair : (a c : ℕ) → a < 16 → c < 16 → get_or table (16 * a + c) 0 ≡ between_four a c
    of_pair a c below-a below-c =
        let row : (16 * a + c) / 16 ≡ a = omega arith in
        let column : (16 * a + c) % 16 ≡ c = omega arith in
        eqb-true (get_or table (16 * a + c) 0) (between_four ((16 * a + c) / 16) ((16 * a + c) % 16))
        (at_entry rule table test (16 * a + c) (omega arith))
        ∙ ap (λ (k : ℕ). between_four k ((16 * a + c) % 16)) row
        ∙ ap (λ (k : ℕ). between_four a k) column

pub returns : goal.returns
returns c =
    ruled _ refl refl
