-- Laws of a run of stores: two runs, one behind the other, are one; one store more; and what stands in front afterwards.
-- Assumes nothing.
use Prim.Native.Nat.{ℕ, suc, ◌+◌, ◌≤◌, ◌<◌}
use native.Mathlib.Omega.{arith}
use native.Mathlib.Numerals.{add-one}
use native.Mathlib.Nat.{add-zero, add-suc, suc-add, zero-add}
use mathlib.Core.Path.{◌≡◌, ◌∙◌}
use mathlib.Core.List.{List, [], ◌∷◌, ◌++◌}
use lib.ListN.{length, get_or, take, drop, set}
use lib.Seq.{sets, sets-eq, take-append_seam, take-suc, length-take-le}

pub sets_append : (l : List ℕ) (i : ℕ) (vs ws : List ℕ) → sets l i (vs ++ ws) ≡ sets (sets l i vs) (i + length vs) ws
sets_append l i [] ws = rw add-zero
sets_append l i (a ∷ vs) ws = rw (add-suc, ← suc-add i (length vs)) (sets_append (set l i a) (suc i) vs ws)

pub sets_snoc : (l vs : List ℕ) (v : ℕ) → sets l 0 (vs ++ v ∷ []) ≡ set (sets l 0 vs) (length vs) v
sets_snoc l vs v = sets_append l 0 vs (v ∷ []) ∙ rw zero-add

-- from the first place on: what was stored stands in front, and the rest is as it was
pub sets_front : (l vs : List ℕ) → length vs ≤ length l → sets l 0 vs ≡ vs ++ drop (length vs) l
sets_front l vs h = sets-eq vs l 0 (rw zero-add h) ∙ rw zero-add

pub take-stored : (l vs : List ℕ) → length vs ≤ length l → take (length vs) (sets l 0 vs) ≡ vs
take-stored l vs h = rw (sets_front l vs h) (take-append_seam vs (drop (length vs) l))

-- the next element of a list that is stored one by one
pub store_next : (old word : List ℕ) (at i d : ℕ) → i < length word
    → set (sets old at (take i word)) (at + i) (get_or word i d) ≡ sets old at (take (i + 1) word)
store_next old word at i d h =
    rw (add-one, take-suc word i d h, sets_append old at (take i word) (get_or word i d ∷ []), length-take-le i word (omega arith))
