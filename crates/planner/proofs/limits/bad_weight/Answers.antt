-- `planner::limits::bad_weight` meets its contract: each way out has the tests that it comes by. Assumes nothing.
use borrow.Author.Tests.{lt-ltb, le-ltb, eq-eqb, ne_eqb}
use Rattle.planner.specs.Limits.{bad_weight}
use Rattle.planner.proofs.limits.bad_weight.Goals as goal

pub returns-then-q-eq0 : goal.returns-then-q-eq0
unfolding bad_weight
returns-then-q-eq0 c =
    simp (eq-eqb _ _ c.if-q-eq0.true)

pub returns-then-p-q : goal.returns-then-p-q
unfolding bad_weight
returns-then-p-q c =
    simp (ne_eqb _ _ c.if-q-eq0.false, lt-ltb _ _ c.if-p-q.true)

pub returns-else-p-q : goal.returns-else-p-q
unfolding bad_weight
returns-else-p-q c =
    simp (ne_eqb _ _ c.if-q-eq0.false, le-ltb _ _ c.if-p-q.false)
