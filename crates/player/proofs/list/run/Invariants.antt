-- What the loop of `player::list::run` keeps. Assumes nothing.
use Prim.Native.Nat.{ℕ, ◌≤◌, ◌<◌}
use mathlib.Core.Path.{◌≡◌}
use mathlib.Core.Bool.{false}
use mathlib.Core.List.{List}
use lib.ListN.{length, take}
use Rattle.board.specs.declared.Shape.{Shape}
use Rattle.board.specs.declared.Position.{Position}
use Rattle.board.specs.Lists.{end_board}
use Rattle.board.specs.Held.{held, Taken}
use Rattle.board.specs.Change.{Kept}
use Rattle.player.specs.Play.{bad_at}
use Rattle.player.proofs.list.run.Given as goal

-- the loop at place i
pub record Running (s : Shape) (b moves : List ℕ) (p : Position) (h i : ℕ) : Type 0 where
  pub within : i ≤ length moves
  pub good : (j : ℕ) → j < i → bad_at s b moves j ≡ false
  pub at : Taken s (end_board s b (take i moves)) p
  pub kept : Kept s p h

abbrev pub invariant-loop-i : goal.invariant-loop-i
invariant-loop-i l =
    Running l.cabinet.shape (held l.cabinet.shape l.initial.at.position) l.moves l.at.position l.at.h l.i
