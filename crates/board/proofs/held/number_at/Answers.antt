-- `board::held::number_at` meets its contract: the shift and the remainder are the digit. Assumes nothing.
use Rattle.board.proofs.theory.Digits.{shifted_right}
use Rattle.board.proofs.held.number_at.Goals as goal

pub returns : goal.returns
returns c =
    shifted_right c.args.p.cells c.args.i
