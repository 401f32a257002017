-- `planner::call::short_buffer` meets its contract: each way out has the test that it comes by. Assumes nothing.
use borrow.Author.Tests.{lt-ltb, le-ltb}
use Rattle.planner.specs.Answer.{short_buffer}
use Rattle.planner.proofs.call.short_buffer.Goals as goal

pub returns-then-moves-ceiling : goal.returns-then-moves-ceiling
unfolding short_buffer
returns-then-moves-ceiling c =
    simp (lt-ltb _ _ c.if-moves-ceiling.true)

pub returns-else-moves-ceiling : goal.returns-else-moves-ceiling
unfolding short_buffer
returns-else-moves-ceiling c =
    simp (le-ltb _ _ c.if-moves-ceiling.false)
