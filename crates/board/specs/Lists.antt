-- Legal move lists, of any length: taking back is allowed and no ceiling is known here. Stated over what a move is (when it is
-- legal, and what it makes), so that the search speaks of the same lists. Assumes nothing.
use Rattle.std.specs.Prelude.{ℕ, ◌≡◌, Bool, List, [], ◌∷◌, T}
use Rattle.board.specs.declared.Shape.{Shape}
use Rattle.board.specs.Board.{goal}
use Rattle.board.specs.Moves.{legal, after}

module _ {State : Type 0} (may : State → ℕ → Bool) (makes : State → ℕ → State) where
  -- each move is legal where it stands
  abbrev pub Plays : State → List ℕ → Type 0
  Plays s [] = Unit {0}
  Plays s (m ∷ ms) = T (may s m) × Plays (makes s m) ms

  -- where the list ends
  abbrev pub ends : State → List ℕ → State
  ends s [] = s
  ends s (m ∷ ms) = ends (makes s m) ms

-- a legal list of moves from a board, and the board that it ends at
abbrev pub LegalList : Shape → List ℕ → List ℕ → Type 0
LegalList s b ms = Plays (legal s) (after s) b ms

abbrev pub end_board : Shape → List ℕ → List ℕ → List ℕ
end_board s b ms = ends (legal s) (after s) b ms

-- a legal list that leads to the goal
pub record Solves (s : Shape) (b ms : List ℕ) : Type 0 where
  pub plays : LegalList s b ms
  pub reaches : end_board s b ms ≡ goal s
