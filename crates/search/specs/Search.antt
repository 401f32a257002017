-- The search (document 01, "The search"): a visit to a position, and the work through its successors, which call each other.
-- Stated over a space, a static value and a ceiling. Visits are counted down from the budget. Assumes nothing.
use Rattle.std.specs.Prelude.{ℕ, zero, suc, ◌+◌, ◌*◌, Bool, true, false, cond, not, ◌&&◌, List, [], ◌∷◌, set}
use Rattle.search.specs.declared.Weight.{Weight}
use Rattle.search.specs.Space.{Space}
use Rattle.search.specs.Row.{infinity, best, goes_on, handed_down, takes_back, first_stored, above_ceiling}

-- how a visit ends: at the goal, with the moves to it; with the F that it returns; or for want of a visit. Each but the last
-- says how many visits are left
pub data Outcome : Type 0 where
  found : List ℕ → ℕ → Outcome
  value : ℕ → ℕ → Outcome
  spent : Outcome

-- the static value f = q × g + p × h of a position reached by g moves
unfoldable pub static : (S : Space) → Weight → ℕ → S.State → ℕ
static S w g s = w.q * g + w.p * S.dist s

-- what a successor's visit comes to in the work on a row: the goal, one move earlier; its value, as the move's new F; or nothing
unfoldable pub taken_up : ℕ → List ℕ → Outcome → (List ℕ → ℕ → Outcome) → Outcome
taken_up m r (found ms left) go_on = found (m ∷ ms) left
taken_up m r (value v left) go_on = go_on (set r m v) left
taken_up m r spent go_on = spent

-- one turn of the work: visit the best successor and go on with what it returns, or return the least F
unfoldable pub turn : Bool → (ℕ → ℕ → ℕ → ℕ → Outcome) → (List ℕ → ℕ → Outcome) → ℕ → List ℕ → ℕ → Outcome
turn true visit_of go_on bound r left =
    taken_up (best r).step r (visit_of (best r).step (best r).value (handed_down bound r) left) go_on
turn false visit_of go_on bound r left = value (best r).value left

-- the work through the successors. `visit_of m stored bound left` visits the successor by move m. The first number bounds the
-- turns: each uses up a visit, so one more than the visits left is enough
unfoldable pub work : (ℕ → ℕ → ℕ → ℕ → Outcome) → ℕ → ℕ → List ℕ → ℕ → Outcome
work visit_of zero bound r left = spent
work visit_of (suc turns) bound r left = turn (goes_on bound r) visit_of (λ r' left'. work visit_of turns bound r' left') bound r left

-- the goal ends the search with the path to it; otherwise the visit goes on
unfoldable pub unless_goal : Bool → ℕ → (ℕ → Outcome) → Outcome
unless_goal true left go_on = found [] left
unless_goal false left go_on = go_on left

module _ (S : Space) (f : ℕ → S.State → ℕ) (ceiling : ℕ) where
  -- the moves that make successors: legal, and not the one that takes back the last
  unfoldable pub is_successor : S.State → ℕ → ℕ → Bool
  is_successor s last m = S.may s m && not (takes_back last m)

  -- the first F of a move of a position at depth g with the stored value F. A successor whose own g + h is above the ceiling has
  -- infinity, whatever it would inherit
  unfoldable pub first_entry : ℕ → S.State → ℕ → ℕ → ℕ → ℕ
  first_entry g s last stored m =
      let t = S.makes s m in
      cond (is_successor s last m)
      (cond (above_ceiling ceiling (suc g) (S.dist t)) infinity (first_stored (f g s) stored (f (suc g) t)))
      infinity

  unfoldable pub first_row : ℕ → S.State → ℕ → ℕ → List ℕ
  first_row g s last stored =
      first_entry g s last stored 0
      ∷ first_entry g s last stored 1
      ∷ first_entry g s last stored 2
      ∷ first_entry g s last stored 3
      ∷ []

  -- a visit to a position at depth g, reached by the move `last`. The first number is what is left of the ceiling: at the
  -- ceiling there are no successors, and infinity is returned
  unfoldable pub visit : ℕ → ℕ → S.State → ℕ → ℕ → ℕ → ℕ → Outcome
  visit zero g s last stored bound zero = spent
  visit (suc deeper) g s last stored bound zero = spent
  visit zero g s last stored bound (suc left) = unless_goal (S.at_goal s) left (λ left'. value infinity left')
  visit (suc deeper) g s last stored bound (suc left) =
      unless_goal (S.at_goal s) left
      (λ left'. work (λ m stored' bound' left''. visit deeper (suc g) (S.makes s m) m stored' bound' left'')
      (suc left') bound (first_row g s last stored) left')

  -- the whole search: the start is visited with F = f and an infinite bound
  unfoldable pub search : S.State → ℕ → Outcome
  search s budget = visit ceiling 0 s 4 (f 0 s) infinity budget
