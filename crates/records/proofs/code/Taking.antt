-- The loop that takes one number after the other: what was taken so far and what is found behind it make the whole. First a
-- turn, then both ways out. Assumes nothing.
use Prim.Native.Nat.{ℕ, suc, ◌+◌, ◌-◌, ◌≤◌, ◌<◌}
use native.Mathlib.Omega.{arith}
use native.Mathlib.Numerals.{add-one}
use mathlib.Core.Path.{◌≡◌, refl, ap, sym, ◌∙◌}
use mathlib.Core.List.{List, [], ◌∷◌, ◌++◌, append_assoc, append-nil}
use lib.ListN.{length, take, set, length-set}
use lib.Seq.{take-suc-set, take_all}
use Rattle.std.specs.Prelude.{Ok, Err}
use Rattle.records.specs.declared.ReadRefusal.{ReadRefusal}
use Rattle.records.specs.Scan.{Found, found, behind, number_at, numbers_at, prepend}
use Rattle.records.proofs.theory.Scanning.{numbers-next, numbers_stop}

-- what was taken in front of what is found
abbrev joined : List ℕ → Found (List ℕ) → Found (List ℕ)
joined vs numbers = behind numbers λ ws next. found (vs ++ ws) next

joined-more : (vs : List ℕ) (v : ℕ) (found : Found (List ℕ)) → joined vs (prepend v found) ≡ joined (vs ++ v ∷ []) found
joined-more vs v (Err why) = refl
joined-more vs v (Ok (ws, next)) = rw append_assoc

pub record Taken (bytes : List ℕ) (from size : ℕ) (new : List ℕ) (at i : ℕ) : Type 0 where
  pub long : length new ≡ size
  pub within : i ≤ size
  pub whole : numbers_at size bytes from ≡ joined (take i new) (numbers_at (size - i) bytes at)

module _ (bytes : List ℕ) (from size : ℕ) (new : List ℕ) (at i : ℕ) (taken : Taken bytes from size new at i) where
  one_left : i < size → size - i ≡ suc (size - (i + 1))
  one_left h = omega arith

  -- what was found behind the first i, with one number more to find
  more : i < size → numbers_at size bytes from ≡ joined (take i new) (numbers_at (suc (size - (i + 1))) bytes at)
  more inside = taken.whole ∙ ap (λ (k : ℕ). joined (take i new) (numbers_at k bytes at)) (one_left inside)

  pub goes_on_lem : (v next : ℕ) → i < size → number_at bytes at ≡ found v next → Taken bytes from size (set new i v) next (i + 1)
  goes_on_lem v next inside met =
      let left = numbers_at (size - (i + 1)) bytes next in
      let front : take (i + 1) (set new i v) ≡ take i new ++ v ∷ [] = rw add-one (take-suc-set new i v (omega (arith, taken.long))) in
      record {
        long = length-set new i v ∙ taken.long;
        within = omega (arith, taken.long);
        whole =
            more inside
            ∙ ap (joined (take i new)) (numbers-next (size - (i + 1)) bytes at v next met)
            ∙ joined-more (take i new) v left
            ∙ ap (λ (vs : List ℕ). joined vs left) (sym front);
      }

  pub stops : (why : ReadRefusal) → i < size → number_at bytes at ≡ Err why → numbers_at size bytes from ≡ Err why
  stops why inside met = more inside ∙ ap (joined (take i new)) (numbers_stop (size - (i + 1)) bytes at why met)

  pub all-taken : size ≤ i → numbers_at size bytes from ≡ found new at
  unfolding numbers_at
  all-taken past =
      let none : size - i ≡ 0 = omega (arith, taken.long) in
      taken.whole
      ∙ ap (λ (k : ℕ). joined (take i new) (numbers_at k bytes at)) none
      ∙ ap (λ (vs : List ℕ). found vs at) (append-nil (take i new) ∙ take_all i new (omega (arith, taken.long)))
