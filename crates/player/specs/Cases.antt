-- When each answer is given, case by case, over the board part's legal lists: a second account of the answer, that names no
-- order of tests and no search for a first place. proofs/Promises.antt shows that it fits exactly the answer of Play.
-- Assumes nothing.
use Rattle.std.specs.Prelude.{ℕ, ◌≤◌, ◌<◌, ◌≡◌, ◌↔◌, Bool, true, false, List, length, take, get_or}
use Rattle.board.specs.declared.Shape.{Shape}
use Rattle.board.specs.declared.Fault.{Fault}
use Rattle.std.specs.Prelude.{Ok, Err}
use Rattle.board.specs.Shape.{cells, GoodShape}
use Rattle.board.specs.Board.{IsBoard, goal}
use Rattle.board.specs.Moves.{legal}
use Rattle.board.specs.Lists.{LegalList, end_board}
use Rattle.board.specs.Faults.{tested}
use Rattle.player.specs.declared.PlayRefusal.TheVariants.{Board, ShortOutput, NoMove, OffGrid}
use Rattle.player.specs.Play.{Played}

-- a board of the shape
pub record OnCabinet (s : Shape) (b : List ℕ) : Type 0 where
  pub shape : GoodShape s
  pub board : IsBoard s b

-- the moves before place i are a legal list, and move i is not legal on the board that they end at
pub record FirstBadAt (s : Shape) (b moves : List ℕ) (i : ℕ) : Type 0 where
  pub inside : i < length moves
  pub before : LegalList s b (take i moves)
  pub bad : legal s (end_board s b (take i moves)) (get_or moves i 0) ≡ false

pub data CaseOf (s : Shape) (b moves : List ℕ) (room : ℕ) : Played → Type 0 where
  -- 1 to 4
  faulty : (fault : Fault) → tested s.width s.height b ≡ Err fault → CaseOf s b moves room (Err (Board fault))
  -- 8
  short : OnCabinet s b → room < cells s → CaseOf s b moves room (Err ShortOutput)
  -- 13
  no_move :
      (i : ℕ) → OnCabinet s b → cells s ≤ room → FirstBadAt s b moves i → 3 < get_or moves i 0 → CaseOf s b moves room (Err (NoMove i))
  -- 14
  off_grid :
      (i : ℕ) → OnCabinet s b → cells s ≤ room → FirstBadAt s b moves i → get_or moves i 0 ≤ 3 → CaseOf s b moves room (Err (OffGrid i))
  -- the whole list is legal: yes exactly if it ends at the goal
  played :
      (says : Bool)
      → OnCabinet s b
      → cells s ≤ room
      → LegalList s b moves
      → (says ≡ true) ↔ (end_board s b moves ≡ goal s)
      → CaseOf s b moves room (Ok says)
