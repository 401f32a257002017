-- How a claim about an answer is shown, once for all that is proved of the search: at the goal and past it, and by induction over
-- the work on a row. There the claim follows from an invariant of the row and of the visits left: it holds where the work stops,
-- and each visit's answer either meets it or keeps the invariant. Assumes nothing.
use Prim.Native.Nat.{ℕ, zero, suc}
use mathlib.Core.Path.{◌≡◌, refl}
use mathlib.Core.Bool.{Bool, true, false}
use mathlib.Core.List.{List, [], ◌∷◌}
use lib.ListN.{set}
use Rattle.search.specs.Row.{best, goes_on, handed_down}
use Rattle.search.specs.Search.{Outcome, found, value, spent, taken_up, turn, work, unless_goal}

-- an answer is named by what it holds: one claim of a plan, one of a value; of a search that ran out nothing is claimed
abbrev pub Ends : (List ℕ → ℕ → Type 0) → (ℕ → ℕ → Type 0) → Outcome → Type 0
Ends Plan Value (found ms left) = Plan ms left
Ends Plan Value (value v left) = Value v left
Ends Plan Value spent = Unit {0}

-- a weaker claim
pub ends-map : {Plan Plan' : List ℕ → ℕ → Type 0} {Value Value' : ℕ → ℕ → Type 0} (o : Outcome)
    → ((ms : List ℕ) (left : ℕ) → Plan ms left → Plan' ms left) → ((v left : ℕ) → Value v left → Value' v left)
    → Ends Plan Value o → Ends Plan' Value' o
ends-map (found ms left) on_plan on_value h = on_plan ms left h
ends-map (value v left) on_plan on_value h = on_value v left h
ends-map spent on_plan on_value h = tt

-- a visit ends at the goal, or does what comes after
pub goal-ends : (Plan : List ℕ → ℕ → Type 0) (Value : ℕ → ℕ → Type 0) (t : Bool) (left : ℕ) (go_on : ℕ → Outcome)
    → (t ≡ true → Plan [] left) → (t ≡ false → Ends Plan Value (go_on left)) → Ends Plan Value (unless_goal t left go_on)
unfolding unless_goal
goal-ends Plan Value true left go_on at_goal further = at_goal refl
goal-ends Plan Value false left go_on at_goal further = further refl

module _ (Plan : List ℕ → ℕ → Type 0) (Value : ℕ → ℕ → Type 0) (Row : List ℕ → ℕ → Type 0) (visit_of : ℕ → ℕ → ℕ → ℕ → Outcome)
    (bound : ℕ) where
  -- what an answer of the chosen successor's visit has to show
  abbrev pub Taken : List ℕ → Outcome → Type 0
  Taken r = Ends (λ ms left. Plan ((best r).step ∷ ms) left) (λ v left. Row (set r (best r).step v) left)

  after-visit : (r : List ℕ) (o : Outcome) (go_on : List ℕ → ℕ → Outcome)
      → ((r' : List ℕ) (left' : ℕ) → Row r' left' → Ends Plan Value (go_on r' left')) → Taken r o
      → Ends Plan Value (taken_up (best r).step r o go_on)
  unfolding taken_up
  after-visit r (found ms left) go_on rest h = h
  after-visit r (value v left) go_on rest h = rest (set r (best r).step v) left h
  after-visit r spent go_on rest h = tt

  by_test : (t : Bool) (r : List ℕ) (left : ℕ) (go_on : List ℕ → ℕ → Outcome)
      → ((r' : List ℕ) (left' : ℕ) → Row r' left' → Ends Plan Value (go_on r' left'))
      → (t ≡ false → Value (best r).value left)
      → (t ≡ true → Taken r (visit_of (best r).step (best r).value (handed_down bound r) left))
      → Ends Plan Value (turn t visit_of go_on bound r left)
  unfolding turn
  by_test true r left go_on rest stop go =
      after-visit r (visit_of (best r).step (best r).value (handed_down bound r) left) go_on rest (go refl)
  by_test false r left go_on rest stop go = stop refl

  pub work-ends : ((r : List ℕ) (left : ℕ) → Row r left → goes_on bound r ≡ false → Value (best r).value left)
      → ((r : List ℕ) (left : ℕ) → Row r left → goes_on bound r ≡ true
      → Taken r (visit_of (best r).step (best r).value (handed_down bound r) left))
      → (turns : ℕ) (r : List ℕ) (left : ℕ) → Row r left → Ends Plan Value (work visit_of turns bound r left)
  unfolding work
  work-ends stop go zero r left i = tt
  work-ends stop go (suc turns) r left i =
      by_test (goes_on bound r) r left (λ r' left'. work visit_of turns bound r' left')
      (λ r' left' i'. work-ends stop go turns r' left' i') (stop r left i) (go r left i)
