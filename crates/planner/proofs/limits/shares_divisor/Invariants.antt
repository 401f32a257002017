-- What the loop of `planner::limits::shares_divisor` keeps. Assumes nothing.
use Rattle.planner.proofs.code.Dividing.{Sought}
use Rattle.planner.proofs.limits.shares_divisor.Given as goal

abbrev pub invariant-loop-d : goal.invariant-loop-d
invariant-loop-d l =
    Sought l.p l.q l.d
