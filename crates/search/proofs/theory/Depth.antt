-- No path is longer than what is left of the ceiling: each move of it is one level of the search. No law of a space is used.
-- Rests on Turns. Assumes nothing.
use Prim.Native.Nat.{ℕ, zero, suc, ◌≤◌}
use mathlib.Core.List.{List}
use native.Mathlib.Omega.{arith}
use lib.ListN.{length}
use Rattle.search.specs.Space.{Space}
use Rattle.search.specs.Row.{best, handed_down}
use Rattle.search.specs.Search.{Outcome, first_row, visit, work}
use Rattle.search.proofs.theory.Turns.{Ends, ends-map, goal-ends, work-ends}

abbrev pub NotLonger : ℕ → Outcome → Type 0
NotLonger n = Ends (λ ms left. length ms ≤ n) (λ v left. Unit {0})

work_depth : (visit_of : ℕ → ℕ → ℕ → ℕ → Outcome) (n turns bound : ℕ)
    → ((m stored' bound' left' : ℕ) → NotLonger n (visit_of m stored' bound' left'))
    → (r : List ℕ) (left : ℕ) → NotLonger (suc n) (work visit_of turns bound r left)
work_depth visit_of n turns bound each r left =
    work-ends (λ ms rest. length ms ≤ suc n) (λ v rest. Unit {0}) (λ row rest. Unit {0}) visit_of bound (λ row rest i e. tt)
    (λ row rest i e.
    ends-map (visit_of (best row).step (best row).value (handed_down bound row) rest) (λ ms left' h. omega arith) (λ v left' h. tt)
    (each (best row).step (best row).value (handed_down bound row) rest)) turns r left tt

pub visit_depth : (S : Space) (f : ℕ → S.State → ℕ) (ceiling deeper g : ℕ) (s : S.State) (last stored bound left : ℕ)
    → NotLonger deeper (visit S f ceiling deeper g s last stored bound left)
unfolding visit
visit_depth S f ceiling zero g s last stored bound zero = tt
visit_depth S f ceiling (suc deeper) g s last stored bound zero = tt
visit_depth S f ceiling zero g s last stored bound (suc left) =
    goal-ends (λ ms rest. length ms ≤ 0) (λ v rest. Unit {0}) (S.at_goal s) left _ (λ e. omega arith) (λ e. tt)
visit_depth S f ceiling (suc deeper) g s last stored bound (suc left) =
    goal-ends (λ ms rest. length ms ≤ suc deeper) (λ v rest. Unit {0}) (S.at_goal s) left _ (λ e. omega arith)
    (λ e. work_depth (λ m stored' bound' rest. visit S f ceiling deeper (suc g) (S.makes s m) m stored' bound' rest) deeper
    (suc left) bound (λ m stored' bound' rest. visit_depth S f ceiling deeper (suc g) (S.makes s m) m stored' bound' rest)
    (first_row S f ceiling g s last stored) left)
