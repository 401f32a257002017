-- `read::read_number` meets its contract: what stands in front of the rest are the digits.
-- Assumes nothing.
use Rattle.jobline.proofs.theory.Runs.{run-digits}
use Rattle.jobline.proofs.read.read_number.Goals as goal

pub value_of-requires-clause-digits : goal.value_of-requires-clause-digits
value_of-requires-clause-digits c =
    rw (c.split_at.ensures.front, c.digit_count.ensures.value) (run-digits c.args.text.now)
