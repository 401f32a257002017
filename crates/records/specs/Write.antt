-- Writing a record: what a caller gives, the refusals in their order, the answer and the output afterwards. Tests 1 to 4 are the board's,
-- 5 to 7 and 15 the planner's (visits tested as a budget), 13 and 14 as the player finds them. Assumes nothing.
use Rattle.std.specs.Prelude.{ℕ, ◌≤◌, ◌≡◌, Bool, not, List, [], ◌∷◌, ◌++◌, Result, Ok, Err, ltb, ℤ, length, drop, get_or}
use Rattle.std.proofs.Math.Option.{Option, none, some}
use Rattle.board.specs.declared.Shape.{Shape}
use Rattle.board.specs.Shape.{GoodShape}
use Rattle.board.specs.Board.{IsBoard, is_goal}
use Rattle.board.specs.Lists.{end_board}
use Rattle.board.specs.Tests.{Test, test, first_refusal, under}
use Rattle.board.specs.Faults.{fault_tests}
use Rattle.player.specs.declared.PlayRefusal.{PlayRefusal}
use Rattle.player.specs.declared.PlayRefusal.TheVariants.{Board as PlayBoard, ShortOutput as PlayShort}
use Rattle.player.specs.declared.PlayRefusal.TheVariants.{NoMove as PlayNoMove, OffGrid as PlayOffGrid}
use Rattle.player.specs.Play.{first_bad, bad_move}
use Rattle.planner.specs.Limits.{ceiling_of, limit_tests}
use Rattle.records.specs.declared.PlanRefusal.{PlanRefusal}
use Rattle.records.specs.declared.PlanRefusal.TheVariants.{Board, Beyond, TooLong, NoMove, OffGrid, NotSolved, ShortOutput}
use Rattle.records.specs.Record.{Fields, record_of}

-- what a caller gives: any numbers
pub record Given : Type 0 where
  pub width : ℕ
  pub height : ℕ
  pub board : List ℕ
  pub ceiling : ℤ
  pub p : ℕ
  pub q : ℕ
  pub visits : ℕ
  pub moves : List ℕ

-- the fields of its record
abbrev pub fields_of : Given → Fields
fields_of g =
    record {
      width = g.width;
      height = g.height;
      cells = g.board;
      ceiling = ceiling_of g.ceiling;
      p = g.p;
      q = g.q;
      visits = g.visits;
      moves = g.moves;
    }

abbrev pub shape_of : Fields → Shape
shape_of f = record { width = f.width; height = f.height }

-- the player's refusal of a list, with the same number and place
abbrev pub unplayed : PlayRefusal → PlanRefusal
unplayed (PlayBoard fault) = Board fault
unplayed PlayShort = ShortOutput
unplayed (PlayNoMove i) = NoMove i
unplayed (PlayOffGrid i) = OffGrid i

-- 21 length above ceiling, 13 or 14 at the first bad move, 22 not ending at the goal, 8 output too short
unfoldable pub list_tests : Fields → Bool → List (Test PlanRefusal)
list_tests f short =
    let s = shape_of f in
    let bad = first_bad s f.cells f.moves in
    test (ltb f.ceiling (length f.moves)) TooLong
    ∷ test (ltb bad (length f.moves)) (unplayed (bad_move (get_or f.moves bad 0) bad))
    ∷ test (not (is_goal s (end_board s f.cells f.moves))) NotSolved
    ∷ test short ShortOutput
    ∷ []

-- 1 to 4, 5 to 7, 15, and then these. Whether the output is too short is the caller's to say
unfoldable pub plan_tests : Given → Bool → List (Test PlanRefusal)
plan_tests g short =
    under Board (fault_tests g.width g.height g.board)
    ++ (under Beyond (limit_tests g.ceiling g.visits g.p g.q) ++ list_tests (fields_of g) short)

-- the output is shorter than the bytes
abbrev pub too_short : List ℕ → List ℕ → Bool
too_short bytes found = ltb (length found) (length bytes)

unfoldable pub write_tests : Given → List ℕ → List (Test PlanRefusal)
write_tests g found = plan_tests g (too_short (record_of (fields_of g)) found)

-- what the caller gets, and the output as it is left
pub record Left : Type 0 where
  pub answer : Result ℕ PlanRefusal
  pub out : List ℕ

-- a refusal leaves the output as found; else it begins with the record, the rest stays, and the record's length is answered
unfoldable pub leaves : List ℕ → List ℕ → Option PlanRefusal → Left
leaves bytes found (some why) = record { answer = Err why; out = found }
leaves bytes found none = record { answer = Ok (length bytes); out = bytes ++ drop (length bytes) found }

-- by the first of the tests that holds
abbrev pub left_by : List ℕ → List ℕ → List (Test PlanRefusal) → Left
left_by bytes found ts = leaves bytes found (first_refusal ts)

-- the whole of a call
unfoldable pub written : Given → List ℕ → Left
written g found = left_by (record_of (fields_of g)) found (write_tests g found)

-- the same from test 21 on, and from test 8 on
abbrev pub list_written : Fields → List ℕ → Left
list_written f found = left_by (record_of f) found (list_tests f (too_short (record_of f) found))

abbrev pub room_written : List ℕ → List ℕ → Left
room_written bytes found = left_by bytes found (test (too_short bytes found) ShortOutput ∷ [])

-- an answer and an output are these
pub record Settles (left : Left) (answer : Result ℕ PlanRefusal) (out : List ℕ) : Type 0 where
  pub answers : answer ≡ left.answer
  pub leaves : out ≡ left.out

-- what tests 1 to 7 and 15 leave to those that follow: a board of the shape, and a ceiling within its limit
pub record Passed (f : Fields) : Type 0 where
  pub shape : GoodShape (shape_of f)
  pub board : IsBoard (shape_of f) f.cells
  pub ceiling : f.ceiling ≤ 120

-- what the code's parameters say
abbrev pub given : ℕ → ℕ → List ℕ → ℤ → ℕ → ℕ → ℕ → List ℕ → Given
given width height board ceiling p q visits moves =
    record { width = width; height = height; board = board; ceiling = ceiling; p = p; q = q; visits = visits; moves = moves }

abbrev pub fields : ℕ → ℕ → List ℕ → ℕ → ℕ → ℕ → ℕ → List ℕ → Fields
fields width height cells ceiling p q visits moves =
    record { width = width; height = height; cells = cells; ceiling = ceiling; p = p; q = q; visits = visits; moves = moves }
