-- `write::refusal_length` meets its contract: the lengths of the line's pieces.
-- Assumes nothing.
use native.Mathlib.Omega.{arith}
use Rattle.jobline.proofs.theory.Lines.{refused-length}
use Rattle.jobline.proofs.write.refusal_length.Goals as goal

pub returns : goal.returns
returns c =
    let a = c.args in
    omega (arith, refused-length a.number a.cell a.visits)
