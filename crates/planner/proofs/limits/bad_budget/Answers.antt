-- `planner::limits::bad_budget` meets its contract: each way out has the test that it comes by. Assumes nothing.
use borrow.Author.Tests.{lt-ltb, le-ltb}
use Rattle.planner.specs.Limits.{bad_budget}
use Rattle.planner.proofs.limits.bad_budget.Goals as goal

pub returns-then-budget-lt1 : goal.returns-then-budget-lt1
unfolding bad_budget
returns-then-budget-lt1 c =
    simp (lt-ltb _ _ c.if-budget-lt1.true)

pub returns-else-budget-lt1 : goal.returns-else-budget-lt1
unfolding bad_budget
returns-else-budget-lt1 c =
    simp (le-ltb _ _ c.if-budget-lt1.false)
