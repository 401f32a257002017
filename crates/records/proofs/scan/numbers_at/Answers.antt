-- `scan::numbers_at` meets its contract. The invariant: the first numbers stand in the buffer, and what is found behind them is all
-- that is left to find. Assumes nothing.
use mathlib.Core.Path.{sym, ◌∙◌}
use Rattle.std.proofs.lemmas.Result.{err_from_is_err_and}
use Rattle.records.proofs.code.Taking.{stops, goes_on_lem, all-taken}
use Rattle.records.proofs.scan.numbers_at.Goals as goal

pub returns-in_err-value : goal.returns-in_err-value
returns-in_err-value c =
    let p = err_from_is_err_and c.from_residual.result c.from_residual.ensures.1 in
    rw (p.1, p.2) (stops _ _ _ _ _ _ c.loop-number.invariant _ c.loop-number-test.true (sym c.number_at.ensures ∙ c.in_err-value.was))

pub loop-number-preserved : goal.loop-number-preserved
loop-number-preserved c =
    goes_on_lem _ _ _ _ _ _ c.loop-number.invariant _ _ c.loop-number-test.true (sym c.number_at.ensures ∙ c.in_ok-value.was)

pub returns : goal.returns
returns c =
    all-taken _ _ _ _ _ _ c.loop-number.invariant c.loop-number-test.false
