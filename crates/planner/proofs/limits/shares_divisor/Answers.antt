-- `planner::limits::shares_divisor` meets its contract: the loop looks for a number from 2 on that divides both. Assumes nothing.
use native.Mathlib.Omega.{arith}
use Rattle.planner.proofs.theory.Passing.{weight-passes}
use Rattle.planner.proofs.code.Testing.{told}
use Rattle.planner.proofs.code.Dividing.{begin, further, found, nowhere}
use Rattle.planner.proofs.limits.shares_divisor.Goals as goal

pub overflow_add-d-end : goal.overflow_add-d-end
overflow_add-d-end c =
    let most = weight-passes _ _ c.requires in
    record { fits = omega (arith, most.order, most.most) }

pub loop-d-init : goal.loop-d-init
loop-d-init c =
    begin _ _

pub returns-then-divides_both : goal.returns-then-divides_both
returns-then-divides_both c =
    found _ _ _ c.loop-d.invariant (told c.divides_both.ensures c.if-divides_both.true) (omega arith)

pub loop-d-preserved : goal.loop-d-preserved
loop-d-preserved c =
    further _ _ _ c.loop-d.invariant (told c.divides_both.ensures c.if-divides_both.false) (omega arith)

pub returns : goal.returns
returns c =
    nowhere _ _ _ c.loop-d.invariant (weight-passes _ _ c.requires).some (omega (arith, c.loop-d-test.false))
