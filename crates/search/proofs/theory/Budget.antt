-- The count of visits: an answer leaves fewer visits than were given, since each visit counts itself. Holds over any space, with
-- no law. Rests on `Turns.antt`. Assumes nothing.
use Prim.Native.Nat.{ℕ, zero, suc, ◌≤◌, ◌<◌}
use mathlib.Core.List.{List}
use native.Mathlib.Omega.{arith}
use Rattle.search.specs.Space.{Space}
use Rattle.search.specs.Row.{best, handed_down}
use Rattle.search.specs.Search.{Outcome, first_row, visit, work}
use Rattle.search.proofs.theory.Turns.{Ends, ends-map, goal-ends, work-ends}

-- an answer leaves fewer than `left` visits
abbrev pub Spends : ℕ → Outcome → Type 0
Spends left = Ends (λ ms left'. left' < left) (λ v left'. left' < left)

-- the work on a row leaves at most what it was given
pub work_spends : (visit_of : ℕ → ℕ → ℕ → ℕ → Outcome)
    → ((m stored bound left : ℕ) → Spends left (visit_of m stored bound left))
    → (turns bound : ℕ) (r : List ℕ) (left : ℕ) → Spends (suc left) (work visit_of turns bound r left)
work_spends visit_of each turns bound r left =
    work-ends (λ ms left'. left' < suc left) (λ v left'. left' < suc left) (λ r' left'. left' ≤ left) visit_of bound
    (λ r' left' h e. omega arith)
    (λ r' left' h e. ends-map (visit_of (best r').step (best r').value (handed_down bound r') left')
    (λ ms left'' k. omega arith) (λ v left'' k. omega arith) (each (best r').step (best r').value (handed_down bound r') left'))
    turns r left (omega arith)

module _ (S : Space) (f : ℕ → S.State → ℕ) (ceiling : ℕ) where
  pub visit_spends : (deeper g : ℕ) (s : S.State) (last stored bound left : ℕ)
      → Spends left (visit S f ceiling deeper g s last stored bound left)
  unfolding visit
  visit_spends zero g s last stored bound zero = tt
  visit_spends (suc deeper) g s last stored bound zero = tt
  visit_spends zero g s last stored bound (suc left) =
      goal-ends (λ ms left'. left' < suc left) (λ v left'. left' < suc left) (S.at_goal s) left _ (λ e. omega arith) (λ e. omega arith)
  visit_spends (suc deeper) g s last stored bound (suc left) =
      goal-ends (λ ms left'. left' < suc left) (λ v left'. left' < suc left) (S.at_goal s) left _ (λ e. omega arith)
      (λ e. work_spends (λ m stored' bound' left'. visit S f ceiling deeper (suc g) (S.makes s m) m stored' bound' left')
      (λ m stored' bound' left'. visit_spends deeper (suc g) (S.makes s m) m stored' bound' left')
      (suc left) bound (first_row S f ceiling g s last stored) left)
