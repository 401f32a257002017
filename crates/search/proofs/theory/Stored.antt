-- The stored values of a row, as the work on it keeps them: finite ones at legal moves only, none below q times the moves made,
-- and, where the visited position's own value is good, each successor's is good. Holds of a first row and after each store.
-- Rests on `Successors.antt` and `Fair.antt`. Assumes nothing.
use Prim.Native.Nat.{ℕ, suc, ◌+◌, ◌*◌, ◌≤◌, ◌<◌}
use mathlib.Core.List.{List}
use native.Mathlib.Nat.{mul-le-mul}
use native.Mathlib.Omega.{arith}
use lib.ListN.{set}
use Rattle.search.specs.declared.Weight.{Weight}
use Rattle.search.specs.Space.{Space}
use Rattle.search.specs.Row.{infinity, entry, first_stored}
use Rattle.search.specs.Search.{first_row}
use Rattle.search.proofs.theory.Laws.{Laws}
use Rattle.search.proofs.theory.Walks.{Steps}
use Rattle.search.proofs.theory.Fair.{Good, Fair, above_good}
use Rattle.search.proofs.theory.Rows.{set-each, first-stored}
use Rattle.search.proofs.theory.Successors.{Legal, first-each, first-legal, set-legal}

-- the row r of a state s at depth g, reached by the move `last`, that is visited with the value F
pub record Sound (S : Space) (w : Weight) (ceiling g last : ℕ) (s : S.State) (F : ℕ) (r : List ℕ) : Type 0 where
  pub legal : Legal S s r
  pub made : (m : ℕ) → w.q * suc g ≤ entry r m
  pub good : Good S w ceiling g last s F → (m : ℕ) → Steps S last s m → Good S w ceiling (suc g) m (S.makes s m) (entry r m)

-- the moves made stay below infinity
pub made-finite : (S : Space) (I : S.State → Type 0) (w : Weight) (ceiling : ℕ) (f : ℕ → S.State → ℕ) → Fair S I w ceiling f
    → (g : ℕ) → g ≤ ceiling → w.q * g < infinity
made-finite S I w ceiling f fair g h = omega (arith, mul-le-mul fair.weight h, fair.finite)

module _ (S : Space) (I : S.State → Type 0) (laws : Laws S I) (w : Weight) (ceiling : ℕ) (f : ℕ → S.State → ℕ)
    (fair : Fair S I w ceiling f) (g last : ℕ) (s : S.State) (F : ℕ) where
  first_made : I s → g < ceiling → (m : ℕ) → w.q * suc g ≤ entry (first_row S f ceiling g s last F) m
  first_made i h = first-each S f ceiling I laws (λ m v. w.q * suc g ≤ v) g s last F successor (λ m out. omega (arith, finite))
    where
      finite : w.q * suc g < infinity
      finite = made-finite S I w ceiling f fair (suc g) h

      successor : (m : ℕ) → Steps S last s m → suc g + S.dist (S.makes s m) ≤ ceiling
          → w.q * suc g ≤ first_stored (f g s) F (f (suc g) (S.makes s m))
      successor m step near =
          let own = fair.made (suc g) (S.makes s m) (laws.kept s m i step.legal) h in
          first-stored (λ v. w.q * suc g ≤ v) (f g s) F (f (suc g) (S.makes s m)) own (omega arith)

  -- a value that is inherited is good, since a walk from the successor is one from the visited position with a move more
  first_good : I s → Good S w ceiling g last s F → (m : ℕ) → Steps S last s m
      → Good S w ceiling (suc g) m (S.makes s m) (entry (first_row S f ceiling g s last F) m)
  first_good i good =
      first-each S f ceiling I laws (λ m v. Steps S last s m → Good S w ceiling (suc g) m (S.makes s m) v) g s last F
      (λ m step near again n walk h. successor m step n walk h)
      (λ m out step. above_good S I laws w ceiling (suc g) m (S.makes s m) infinity (laws.kept s m i step.legal) (out step))
    where
      successor : (m : ℕ) → Steps S last s m
          → Good S w ceiling (suc g) m (S.makes s m) (first_stored (f g s) F (f (suc g) (S.makes s m)))
      successor m step n walk h =
          let own = fair.good (suc g) m (S.makes s m) (laws.kept s m i step.legal) n walk h in
          let parent = good (suc n) (m, step, walk) (omega arith) in
          let parent' : F ≤ w.p * (suc g + n) = omega arith in
          first-stored (λ v. v ≤ w.p * (suc g + n)) (f g s) F (f (suc g) (S.makes s m)) own (omega arith)

  pub first-sound : I s → g < ceiling → Sound S w ceiling g last s F (first_row S f ceiling g s last F)
  first-sound i h =
      record { legal = first-legal S s I laws f ceiling g last F; made = first_made i h; good = first_good i }

  pub set-sound : (r : List ℕ) (m v : ℕ) → Sound S w ceiling g last s F r → entry r m < infinity → w.q * suc g ≤ v
      → (Good S w ceiling g last s F → Steps S last s m → Good S w ceiling (suc g) m (S.makes s m) v)
      → Sound S w ceiling g last s F (set r m v)
  set-sound r m v sound below made good =
      record {
        legal = set-legal S s r m v below sound.legal;
        made = set-each r m v (λ k x. w.q * suc g ≤ x) below made sound.made;
        good = λ is_good. set-each r m v (λ k x. Steps S last s k → Good S w ceiling (suc g) k (S.makes s k) x) below (good is_good)
            (sound.good is_good);
      }
