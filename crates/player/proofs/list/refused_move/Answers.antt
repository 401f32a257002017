-- `player::list::refused_move` meets its contract: each way out has the test that it comes by.
-- Assumes nothing.
use native.Mathlib.Omega.{arith}
use borrow.Author.Tests.{lt-ltb, le-ltb}
use Rattle.player.specs.Play.{bad_move}
use Rattle.player.proofs.list.refused_move.Goals as goal

pub returns-then-byte-gt3 : goal.returns-then-byte-gt3
unfolding bad_move
returns-then-byte-gt3 c =
    rw (lt-ltb 3 c.args.byte (omega arith))

pub returns-else-byte-gt3 : goal.returns-else-byte-gt3
unfolding bad_move
returns-else-byte-gt3 c =
    rw (le-ltb 3 c.args.byte (omega arith))
