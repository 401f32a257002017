-- Bytes put into a lent buffer: one run of stores behind another, one store more at either end, and what stands in front afterwards.
-- Assumes nothing.
use Prim.Native.Nat.{ℕ, suc, ◌+◌, ◌≤◌, ◌<◌}
use native.Mathlib.Omega.{arith}
use native.Mathlib.Numerals.{add-one}
use native.Mathlib.Nat.{add-zero, add-suc, suc-add, zero-add}
use mathlib.Core.Path.{◌≡◌, refl, sym, ap, ◌∙◌}
use mathlib.Core.List.{List, [], ◌∷◌, ◌++◌}
use lib.ListN.{length, take, drop, set, get_or, length-append}
use lib.Seq.{sets, sets-eq, length-sets, take-suc, set_comm}
use Rattle.records.specs.Put.{Put}

sets_append : (l : List ℕ) (i : ℕ) (vs ws : List ℕ) → sets l i (vs ++ ws) ≡ sets (sets l i vs) (i + length vs) ws
sets_append l i [] ws = rw add-zero
sets_append l i (a ∷ vs) ws = rw (add-suc, ← suc-add i (length vs)) (sets_append (set l i a) (suc i) vs ws)

-- a store in front of a run may come after it
set_sets : (l : List ℕ) (i a j : ℕ) (vs : List ℕ) → i < j → set (sets l j vs) i a ≡ sets (set l i a) j vs
set_sets l i a j [] h = refl
set_sets l i a j (v ∷ vs) h =
    set_sets (set l j v) i a (suc j) vs (omega arith) ∙ ap (λ m. sets m (suc j) vs) (set_comm l j i v a (λ e. omega arith))

pub store_before : (l : List ℕ) (i a : ℕ) (vs : List ℕ) → set (sets l (suc i) vs) i a ≡ sets l i (a ∷ vs)
store_before l i a vs = set_sets l i a (suc i) vs (omega arith)

-- from the first place on: what was put stands in front, and the rest is as it was
pub put_front : {bytes old new : List ℕ} {next : ℕ} → Put bytes old 0 new next → length bytes ≤ length old
    → new ≡ bytes ++ drop (length bytes) old
put_front {bytes} {old} put h = put.stored ∙ sets-eq bytes old 0 (rw zero-add h) ∙ rw zero-add

pub put-none : (old : List ℕ) (at next : ℕ) → next ≡ at + 0 → Put [] old at old next
put-none old at next e = record { stored = refl; end = e }

pub put_then : {s t old mid new : List ℕ} {at k next : ℕ} → Put s old at mid k → Put t mid k new next → Put (s ++ t) old at new next
put_then {s} {t} {old} {mid} {new} {at} {k} {next} a b =
    record {
      stored = b.stored ∙ rw (a.stored, a.end) (sym (sets_append old at s t));
      end = rw length-append (omega (arith, a.end, b.end));
    }

pub put-length : {s old new : List ℕ} {at next : ℕ} → Put s old at new next → length new ≡ length old
put-length {s} {old} {new} {at} a = ap length a.stored ∙ length-sets old at s

-- the loop that puts bytes one by one: the first i of them are put
pub put_next : (bytes old new : List ℕ) (at i : ℕ) → i < length bytes → Put (take i bytes) old at new (at + i)
    → Put (take (i + 1) bytes) old at (set new (at + i) (get_or bytes i 0)) (at + (i + 1))
put_next bytes old new at i h put =
    rw (add-one, take-suc bytes i 0 h)
    (put_then put (record { stored = refl; end = omega arith }))
