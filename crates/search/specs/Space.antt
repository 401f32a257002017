-- What is searched: positions, the moves that may be made from each, what a move makes, how far a position is from the goal,
-- and which is the goal. The search is stated over any such space; `boards` is the one that is meant. Assumes nothing.
use Rattle.std.specs.Prelude.{ℕ, Bool, List}
use Rattle.board.specs.declared.Shape.{Shape}
use Rattle.board.specs.Board.{is_goal}
use Rattle.board.specs.Moves.{legal, after}
use Rattle.board.specs.Distance.{distance}

pub record Space : Type 1 where
  pub State : Type 0
  -- a move from a position is legal; what it makes (of a move that is not, anything)
  pub may : State → ℕ → Bool
  pub makes : State → ℕ → State
  pub dist : State → ℕ
  pub at_goal : State → Bool

-- the boards of a shape, with the cabinet's moves and the trays' distance
abbrev pub boards : Shape → Space
boards s = record { State = List ℕ; may = legal s; makes = after s; dist = distance s; at_goal = is_goal s }
