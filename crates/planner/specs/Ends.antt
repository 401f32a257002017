-- What the call's code makes of the search's end: the answer, and what it asks of the visits that are left. Assumes nothing.
use Rattle.std.specs.Prelude.{ℕ, ◌-◌, ◌≤◌, Result, Ok, Err}
use Rattle.search.specs.declared.Out.{Out}
use Rattle.search.specs.declared.Out.TheVariants.{Found, Value, Spent}
use Rattle.planner.specs.declared.Refusal.TheVariants.{NoPlan, OutOfVisits}
use Rattle.planner.specs.declared.Plan.{Plan}
use Rattle.planner.specs.declared.Refusal.{Refusal}

-- no more visits are left than the budget
abbrev pub LeftWithin : ℕ → Out → Type 0
LeftWithin budget (Found n left) = left ≤ budget
LeftWithin budget (Value v left) = left ≤ budget
LeftWithin budget Spent = Unit {0}

abbrev pub answer_of : ℕ → Out → Result Plan Refusal
answer_of budget (Found n left) = Ok (record { length = n; visits = budget - left })
answer_of budget (Value v left) = Err (NoPlan (budget - left))
answer_of budget Spent = Err (OutOfVisits budget)
