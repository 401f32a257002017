-- `search::row::better` meets its contract: the code's test is the definition's. Assumes nothing.
use borrow.Author.Tests.{lt-ltb, le-ltb}
use Rattle.search.specs.Row.{better}
use Rattle.search.proofs.row.better.Goals as goal

pub returns-then-y-x : goal.returns-then-y-x
unfolding better
returns-then-y-x c =
    rw (lt-ltb _ _ c.if-y-x.true)

pub returns-else-y-x : goal.returns-else-y-x
unfolding better
returns-else-y-x c =
    rw (le-ltb _ _ c.if-y-x.false)
