-- What is true of a position that holds a board: its empty cell is one of the board's. Assumes nothing.
use Prim.Native.Nat.{ℕ, ◌<◌}
use mathlib.Core.Path.{sym, subst}
use Rattle.board.specs.declared.Shape.{Shape}
use Rattle.board.specs.declared.Position.{Position}
use Rattle.board.specs.Shape.{cells}
use Rattle.board.specs.Held.{held, Holds}
use Rattle.board.proofs.theory.Sides.{cells-within}
use Rattle.board.proofs.theory.Boards.{empty-inside}

module _ (s : Shape) (p : Position) (holds : Holds s p) where
  pub empty-below : p.empty < cells s
  empty-below = subst (λ (e : ℕ). e < cells s) (sym holds.empty) (empty-inside s (held s p) holds.shape holds.board)

-- what bounds a place in the table
pub ruleset bounds = (cells-within, empty-below)
