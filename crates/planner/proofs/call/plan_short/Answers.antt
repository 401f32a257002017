-- `planner::call::plan_short` meets its contract: it is the call with the short call's weight. Assumes nothing.
use mir.Syntax.{w32}
use mir.ValLaws.{to_z-of_z}
use Rattle.planner.proofs.code.Testing.{same-ceiling}
use Rattle.planner.proofs.call.plan_short.Goals as goal

pub returns : goal.returns
returns c =
    same-ceiling _ _ _ _ _ _ _ _ _ _ _ _ _ (to_z-of_z w32 _ c.ranges.ceiling) c.plan.ensures
