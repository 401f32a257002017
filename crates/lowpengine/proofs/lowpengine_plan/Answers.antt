-- `lowpengine::lowpengine_plan` meets its contract: it is the planner's call with the table as bytes. Assumes nothing.
use mir.Syntax.{w32}
use mir.ValLaws.{to_z-of_z}
use Rattle.lowpengine.proofs.code.OwnTable.{same-ceiling}
use Rattle.lowpengine.proofs.lowpengine_plan.Goals as goal

pub returns : goal.returns
returns c =
    same-ceiling _ _ _ _ _ _ _ _ _ _ _ _ _ (to_z-of_z w32 _ c.ranges.ceiling)
    c.plan_in_bytes.ensures
