-- `write::plan_length` meets its contract: the lengths of the line's pieces.
-- Assumes nothing.
use native.Mathlib.Omega.{arith}
use Rattle.jobline.proofs.theory.Lines.{plan-length}
use Rattle.jobline.proofs.write.plan_length.Goals as goal

pub returns : goal.returns
returns c =
    let a = c.args in
    omega (arith, plan-length a.visits a.moves.now)
