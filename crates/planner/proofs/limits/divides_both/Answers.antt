-- `planner::limits::divides_both` meets its contract: each way out has the test that it comes by. Assumes nothing.
use borrow.Author.Tests.{eq-eqb, ne_eqb}
use Rattle.planner.specs.Limits.{divides_both}
use Rattle.planner.proofs.limits.divides_both.Goals as goal

pub returns-then-p-d-eq0 : goal.returns-then-p-d-eq0
unfolding divides_both
returns-then-p-d-eq0 c =
    simp (eq-eqb _ _ c.if-p-d-eq0.true)

pub returns-else-p-d-eq0 : goal.returns-else-p-d-eq0
unfolding divides_both
returns-else-p-d-eq0 c =
    simp (ne_eqb _ _ c.if-p-d-eq0.false)
