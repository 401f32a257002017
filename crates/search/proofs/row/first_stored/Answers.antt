-- `search::row::first_stored` meets its contract: the test is the definition's. Assumes nothing.
use borrow.Author.Tests.{lt-ltb, le-ltb}
use Rattle.search.specs.Row.{first_stored}
use Rattle.search.proofs.row.first_stored.Goals as goal

pub returns-then-f-stored : goal.returns-then-f-stored
unfolding first_stored
returns-then-f-stored c =
    rw (lt-ltb _ _ c.if-f-stored.true) c.max.ensures

pub returns-else-f-stored : goal.returns-else-f-stored
unfolding first_stored
returns-else-f-stored c =
    rw (le-ltb _ _ c.if-f-stored.false)
