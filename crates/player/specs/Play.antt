-- Playing a list of moves: the first bad move, the whole answer with its tests in the paper's order, and the output afterwards.
-- Stated over the board part's legal moves and the boards that its lists end at. Assumes nothing.
use Rattle.std.specs.Prelude.{ℕ, ◌≡◌, Bool, not, cond, List, ◌++◌, ltb, length, take, drop, get_or, Result, Ok, Err}
use Rattle.board.specs.declared.Shape.{Shape}
use Rattle.board.specs.declared.Fault.{Fault}
use Rattle.board.specs.First.{first_of}
use Rattle.board.specs.Shape.{cells}
use Rattle.board.specs.Board.{is_goal}
use Rattle.board.specs.Moves.{legal}
use Rattle.board.specs.Lists.{end_board}
use Rattle.board.specs.Faults.{tested}
use Rattle.player.specs.declared.PlayRefusal.{PlayRefusal}
use Rattle.player.specs.declared.PlayRefusal.TheVariants.{Board, ShortOutput, NoMove, OffGrid}

-- what playing a list comes to: whether it ends at the goal, or why it is refused
abbrev pub Played : Type 0
Played = Result Bool PlayRefusal

-- move i is not legal on the board that the moves before it end at
abbrev pub bad_at : Shape → List ℕ → List ℕ → ℕ → Bool
bad_at s b moves i = not (legal s (end_board s b (take i moves)) (get_or moves i 0))

-- the place of the first bad move; the list's length where no move is bad
unfoldable pub first_bad : Shape → List ℕ → List ℕ → ℕ
first_bad s b moves = first_of (bad_at s b moves) 0 (length moves)

-- why a bad move is refused: a byte above 3 is no move, and any other leads off the grid
unfoldable pub bad_move : ℕ → ℕ → PlayRefusal
bad_move byte i = cond (ltb 3 byte) (NoMove i) (OffGrid i)

-- what a list comes to whose first bad move has the place `bad`: a refusal, or whether the board that it ends at is the goal
unfoldable pub comes_to : Shape → List ℕ → List ℕ → ℕ → Played
comes_to s end moves bad =
    cond (ltb bad (length moves)) (Err (bad_move (get_or moves bad 0) bad))
    (Ok (is_goal s end))

-- the answer for a sound board: test 8, then the first bad move, then the end board
unfoldable pub answer_on : Shape → List ℕ → List ℕ → ℕ → Played
answer_on s b moves room =
    cond (ltb room (cells s)) (Err ShortOutput)
    (comes_to s (end_board s b moves) moves (first_bad s b moves))

-- the whole answer: what tests 1 to 4 say comes first
unfoldable pub answer_after : Result Shape Fault → List ℕ → List ℕ → ℕ → Played
answer_after (Err fault) b moves room = Err (Board fault)
answer_after (Ok s) b moves room = answer_on s b moves room

abbrev pub answer_for : ℕ → ℕ → List ℕ → List ℕ → ℕ → Played
answer_for width height b moves room = answer_after (tested width height b) b moves room

-- the output afterwards: a refusal leaves it as found, a list that was played puts the end board at its start
unfoldable pub out_after : Played → List ℕ → List ℕ → List ℕ
out_after (Ok goal) end out = end ++ drop (length end) out
out_after (Err why) end out = out

-- what a call gives: its answer, and every byte of the output afterwards
pub record PlayedAs (width height : ℕ) (b moves found : List ℕ) (answer : Played) (out : List ℕ) : Type 0 where
  pub answers : answer ≡ answer_for width height b moves (length found)
  pub leaves : out ≡ out_after answer (end_board (record { width = width; height = height }) b moves) found

-- the same after tests 1 to 4
pub record PlayedOn (s : Shape) (b moves found : List ℕ) (answer : Played) (out : List ℕ) : Type 0 where
  pub answers : answer ≡ answer_on s b moves (length found)
  pub leaves : out ≡ out_after answer (end_board s b moves) found
