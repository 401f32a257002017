-- `Line::number` meets its contract: one digit, or the digits of the tenth and then the last one, as `decimal` has them.
-- Assumes nothing.
use native.Mathlib.Omega.{arith}
use Rattle.jobline.proofs.theory.Decimal.{decimal-small, decimal-more}
use Rattle.jobline.proofs.code.Puts.{room-front, room-behind, wrote_then}
use Rattle.jobline.proofs.write.Line.+number.Goals as goal

pub byte-requires : goal.byte-requires
byte-requires t c =
    rw (decimal-small c.args.n c.if-n-lt10.true) at c.requires

pub returns-then-n-lt10 : goal.returns-then-n-lt10
returns-then-n-lt10 t c =
    rw (decimal-small c.args.n c.if-n-lt10.true) c.byte.ensures

pub number-requires : goal.number-requires
number-requires t c =
    (omega arith, room-front _ _ _ _ (rw (decimal-more c.args.n c.if-n-lt10.false) at c.requires))

pub byte-requires-2 : goal.byte-requires-2
byte-requires-2 t c =
    room-behind _ _ c.number.ensures (rw (decimal-more c.args.n c.if-n-lt10.false) at c.requires)

pub returns : goal.returns
returns t c =
    rw (decimal-more c.args.n c.if-n-lt10.false) (wrote_then c.number.ensures c.byte-2.ensures)
