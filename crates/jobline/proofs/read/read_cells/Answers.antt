-- `read::read_cells` meets its contract: the loop keeps `Taken`, and each return is one case of `read_cells`.
-- Assumes nothing.
use mathlib.Core.Path.{sym, ◌∙◌}
use Rattle.jobline.proofs.code.Taken.{taken_more, taken-end, taken-bad, taken-last}
use Rattle.jobline.proofs.read.read_cells.Goals as goal

pub returns-then-ends : goal.returns-then-ends
returns-then-ends c =
    taken-end _ _ _ _ _ c.loop-count.invariant (sym c.ends.ensures ∙ c.if-ends.true)

pub returns-in_err-cell : goal.returns-in_err-cell
returns-in_err-cell c =
    rw c.from_residual.ensures
    (taken-bad _ _ _ _ _ c.loop-count.invariant (sym c.ends.ensures ∙ c.if-ends.false) (sym c.in_err-cell.ensures.value))

pub loop-count-preserved : goal.loop-count-preserved
loop-count-preserved c =
    taken_more _ _ _ _ _ c.loop-count.invariant _ _ (sym c.ends.ensures ∙ c.if-ends.false) c.loop-count-test.true
    (sym c.in_ok-cell.ensures.value)

pub returns : goal.returns
returns c =
    rw (c.then_some.ensures, c.ends-2.ensures) (taken-last _ _ _ _ _ c.loop-count.invariant c.loop-count-test.false)
