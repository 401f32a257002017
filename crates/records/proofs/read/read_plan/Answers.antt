-- `read::read_plan` meets its contract: the tests before 8 are the writer's answer, and then the
-- cells and behind them the moves. Assumes nothing.
use mathlib.Core.Path.{refl}
use Rattle.std.proofs.lemmas.Result.{err_from_is_err_and}
use Rattle.records.proofs.code.Reading.{lowered-back, asked_refused, asked-short, asked-read}
use Rattle.records.proofs.read.read_plan.Goals as goal

pub returns-in_err-write : goal.returns-in_err-write
returns-in_err-write c =
    let p = err_from_is_err_and c.from_residual.result c.from_residual.ensures.1 in
    rw (p.1, p.2)
    (asked_refused c.args.numbers _ _ _ _ (lowered-back _ _ c.min-ceiling.ensures) _ refl
    _ _ c.write.ensures _ c.in_err-write.was)

pub returns-then-out-board : goal.returns-then-out-board
returns-then-out-board c =
    asked-short c.args.numbers _ _ _ _ (lowered-back _ _ c.min-ceiling.ensures) _ refl
    _ _ c.write.ensures _ c.in_ok-write.was c.if-out-board.true

pub returns : goal.returns
returns c =
    asked-read c.args.numbers _ _ _ _ (lowered-back _ _ c.min-ceiling.ensures) _ refl
    _ _ c.write.ensures _ c.in_ok-write.was c.if-out-board.false c.put_bytes-next.ensures c.put_bytes.ensures
