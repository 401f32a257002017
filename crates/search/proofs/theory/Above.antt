-- A position whose g + h is above the ceiling: so is that of each of its successors, since a move comes nearer by one at most. So its
-- first row is infinity throughout, and a visit to it returns infinity and is the only one made. First the row, then work that
-- stops at once, then the visit. Rests on `Successors.antt`. Assumes nothing.
use Prim.Native.Nat.{ℕ, zero, suc, ◌+◌, ◌≤◌, ◌<◌}
use mathlib.Core.Path.{◌≡◌, refl, sym, subst, ◌∙◌}
use mathlib.Core.Bool.{Bool, true, false, ◌&&◌}
use mathlib.Core.List.{List}
use native.Mathlib.Omega.{arith}
use lib.Dec.{T, leb}
use Rattle.search.specs.Space.{Space}
use Rattle.search.specs.Row.{infinity, entry, best, may_go_on, goes_on}
use Rattle.search.specs.Search.{Outcome, value, turn, work, unless_goal, first_row, visit}
use Rattle.search.proofs.theory.Laws.{Laws}
use Rattle.search.proofs.theory.Rows.{best-entry}
use Rattle.search.proofs.theory.Successors.{first-each}

-- infinity is never gone on from, whatever the bound
infinite_stops : (bound : ℕ) (r : List ℕ) → (best r).value ≡ infinity → goes_on bound r ≡ false
unfolding goes_on may_go_on
infinite_stops bound r e = rw e (go (leb infinity bound))
  where
    go : (t : Bool) → (t && false) ≡ false
    go true = refl
    go false = refl

work-ends-at-once : (visit_of : ℕ → ℕ → ℕ → ℕ → Outcome) (turns bound : ℕ) (r : List ℕ) (left : ℕ) → (best r).value ≡ infinity
    → work visit_of (suc turns) bound r left ≡ value infinity left
unfolding work turn
work-ends-at-once visit_of turns bound r left e = rw (infinite_stops bound r e, e)

module _ (S : Space) (I : S.State → Type 0) (laws : Laws S I) (f : ℕ → S.State → ℕ) (ceiling g : ℕ) (s : S.State) (i : I s)
    (above : ceiling < g + S.dist s) (last stored : ℕ) where
  above-row : (m : ℕ) → entry (first_row S f ceiling g s last stored) m ≡ infinity
  above-row =
      first-each S f ceiling I laws (λ m v. v ≡ infinity) g s last stored
      (λ m step near. absurd (omega (arith, laws.closer s m i step.legal))) (λ m out. refl)

  above-best : (best (first_row S f ceiling g s last stored)).value ≡ infinity
  above-best = sym (best-entry (first_row S f ceiling g s last stored)) ∙ above-row (best (first_row S f ceiling g s last stored)).step

  -- within the ceiling it is not the goal, whose distance is 0
  away : g ≤ ceiling → S.at_goal s ≡ false
  away h = go (S.at_goal s) refl
    where
      go : (t : Bool) → S.at_goal s ≡ t → t ≡ false
      go true e = absurd (omega (arith, laws.near_goal s i (subst T (sym e) tt)))
      go false e = refl

  pub above-visit : g ≤ ceiling → (deeper bound left : ℕ)
      → visit S f ceiling deeper g s last stored bound (suc left) ≡ value infinity left
  unfolding visit unless_goal
  above-visit h zero bound left = rw (away h)
  above-visit h (suc deeper) bound left =
      rw (away h) (work-ends-at-once _ left bound (first_row S f ceiling g s last stored) left above-best)
