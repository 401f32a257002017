-- `mark::mark_step` meets its contract: the byte taken in, and then the product. Assumes nothing.
use Rattle.records.specs.Mark.{mark_step}
use Rattle.records.proofs.mark.mark_step.Goals as goal

pub returns : goal.returns
unfolding mark_step
returns c =
    rw c.from.ensures at c.times.ensures
