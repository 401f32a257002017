-- How large the numbers of a search get: where the static value is at most M below infinity, or infinity itself, every stored
-- value and every value returned is so too. So no number but infinity is above M. First f = q × g + p × h, then the
-- claim of a row, then of a visit. Rests on `Successors.antt` and `Turns.antt`. Assumes nothing.
use Prim.Native.Nat.{ℕ, zero, suc, ◌+◌, ◌*◌, ◌≤◌, ◌<◌, max}
use mathlib.Core.Path.{◌≡◌, refl, subst}
use mathlib.Core.List.{List}
use mathlib.Core.Logic.{◌⊎◌, inl, inr}
use native.Mathlib.Nat.{mul-le-mul_left}
use native.Mathlib.Omega.{arith}
use lib.ListN.{set}
use Rattle.search.specs.declared.Weight.{Weight}
use Rattle.search.specs.Space.{Space}
use Rattle.search.specs.Row.{infinity, entry, best, handed_down, first_stored}
use Rattle.search.specs.Search.{Outcome, static, first_row, visit, work}
use Rattle.search.proofs.theory.Laws.{Laws}
use Rattle.search.proofs.theory.Walks.{Steps}
use Rattle.search.proofs.theory.Rows.{best-entry, best-finite, set-each, first-stored}
use Rattle.search.proofs.theory.Successors.{Legal, first-each, first-legal, best-legal, set-legal}
use Rattle.search.proofs.theory.Turns.{Ends, ends-map, goal-ends, work-ends}

abbrev pub Within : ℕ → ℕ → Type 0
Within M v = (v ≤ M) ⊎ (v ≡ infinity)

-- a static value that is within M up to the ceiling
pub record Capped (S : Space) (I : S.State → Type 0) (ceiling M : ℕ) (f : ℕ → S.State → ℕ) : Type 0 where
  pub finite : M < infinity
  pub within : (g : ℕ) (s : S.State) → I s → g ≤ ceiling → Within M (f g s)

max-within : (M a b : ℕ) → M < infinity → Within M a → Within M b → Within M (max a b)
max-within M a b h (inl x) (inl y) = inl (omega arith)
max-within M a b h (inl x) (inr y) = inr (omega arith)
max-within M a b h (inr x) (inl y) = inr (omega arith)
max-within M a b h (inr x) (inr y) = inr (omega arith)

-- f = q × g + p × h, where no state is farther from the goal than D
pub static-capped : (S : Space) (I : S.State → Type 0) (w : Weight) (ceiling D : ℕ) → ((s : S.State) → I s → S.dist s ≤ D)
    → w.q * ceiling + w.p * D < infinity → Capped S I ceiling (w.q * ceiling + w.p * D) (static S w)
unfolding static
static-capped S I w ceiling D far small =
    record {
      finite = small;
      within = λ g s i h. inl (omega (arith, mul-le-mul_left w.q h, mul-le-mul_left w.p (far s i)));
    }

-- a row that is within M, its finite values at legal moves
pub record Limited (S : Space) (s : S.State) (M : ℕ) (r : List ℕ) : Type 0 where
  pub legal : Legal S s r
  pub within : (m : ℕ) → Within M (entry r m)

module _ (S : Space) (s : S.State) (M : ℕ) (r : List ℕ) (row : Limited S s M r) where
  pub best-within : Within M (best r).value
  best-within = subst (Within M) (best-entry r) (row.within (best r).step)

  pub set-limited : (m v : ℕ) → entry r m < infinity → Within M v → Limited S s M (set r m v)
  set-limited m v below small =
      record {
        legal = set-legal S s r m v below row.legal;
        within = set-each r m v (λ k x. Within M x) below small row.within;
      }

-- of a plan nothing is asked
abbrev pub ReturnsWithin : ℕ → Outcome → Type 0
ReturnsWithin M = Ends (λ ms left. Unit {0}) (λ v left. Within M v)

module _ (S : Space) (I : S.State → Type 0) (laws : Laws S I) (ceiling M : ℕ) (f : ℕ → S.State → ℕ)
    (capped : Capped S I ceiling M f) where
  module _ (g last : ℕ) (s : S.State) (F : ℕ) where
    pub first-limited : I s → g < ceiling → Within M F → Limited S s M (first_row S f ceiling g s last F)
    first-limited i h small =
        record {
          legal = first-legal S s I laws f ceiling g last F;
          within = first-each S f ceiling I laws (λ m v. Within M v) g s last F successor (λ m out. inr refl);
        }
      where
        successor : (m : ℕ) → Steps S last s m → suc g + S.dist (S.makes s m) ≤ ceiling
            → Within M (first_stored (f g s) F (f (suc g) (S.makes s m)))
        successor m step near =
            let own = capped.within (suc g) (S.makes s m) (laws.kept s m i step.legal) h in
            first-stored (Within M) (f g s) F (f (suc g) (S.makes s m)) own
            (max-within M F (f (suc g) (S.makes s m)) capped.finite small own)

    -- the work on a row, given the claim for each visit one move deeper
    work-within : (B : ℕ) → I s → g < ceiling → Within M F → (visit_of : ℕ → ℕ → ℕ → ℕ → Outcome)
        → ((m F' B' left : ℕ) → I (S.makes s m) → Within M F'
        → ReturnsWithin M (visit_of m F' B' left))
        → (turns left : ℕ)
        → ReturnsWithin M (work visit_of turns B (first_row S f ceiling g s last F) left)
    work-within B i h small visit_of each turns left =
        work-ends (λ ms left'. Unit {0}) (λ v left'. Within M v) (λ r left'. Limited S s M r) visit_of B
        (λ r left' row stop. best-within S s M r row)
        (λ r left' row on.
        ends-map (visit_of (best r).step (best r).value (handed_down B r) left') (λ ms left'' plan. tt)
        (λ v left'' back. set-limited S s M r row (best r).step v (best-finite r B on) back)
        (each (best r).step (best r).value (handed_down B r) left'
        (laws.kept s (best r).step i (best-legal S s B r row.legal on)) (best-within S s M r row)))
        turns (first_row S f ceiling g s last F) left (first-limited i h small)

  pub visit-within : (deeper g last : ℕ) (s : S.State) (F B left : ℕ) → I s → deeper + g ≡ ceiling → Within M F
      → ReturnsWithin M (visit S f ceiling deeper g s last F B left)
  unfolding visit
  visit-within zero g last s F B zero i depth small = tt
  visit-within (suc deeper) g last s F B zero i depth small = tt
  visit-within zero g last s F B (suc left) i depth small =
      goal-ends (λ ms left'. Unit {0}) (λ v left'. Within M v) (S.at_goal s) left _ (λ e. tt) (λ e. inr refl)
  visit-within (suc deeper) g last s F B (suc left) i depth small =
      goal-ends (λ ms left'. Unit {0}) (λ v left'. Within M v) (S.at_goal s) left _ (λ e. tt)
      (λ e. work-within g last s F B i (omega arith) small
      (λ m F' B' left'. visit S f ceiling deeper (suc g) (S.makes s m) m F' B' left')
      (λ m F' B' left' i' small'. visit-within deeper (suc g) m (S.makes s m) F' B' left' i' (omega arith) small') (suc left) left)
