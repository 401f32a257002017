-- Reading a record: its numbers in their order, each fault as it is met; then the tests behind them, the end and the mark and the tests
-- of E1 over the fields as they were read; the answer and the output afterwards. Assumes nothing.
use Rattle.std.specs.Prelude.{ℕ, ◌+◌, ◌*◌, ◌/◌, ◌%◌, ◌≤◌, ◌≡◌, min}
use Rattle.std.specs.Prelude.{Bool, not, ◌&&◌, List, [], ◌∷◌, ◌++◌, ltb, eqb, pos, length, get_or, take, drop}
use Rattle.std.specs.Prelude.{Result, Ok, Err}
use Rattle.std.proofs.Math.Option.{Option, none, some}
use Rattle.board.specs.Shape.{Side}
use Rattle.board.specs.Tests.{Test, test, first_refusal, under}
use Rattle.records.specs.declared.Numbers.{Numbers}
use Rattle.records.specs.declared.PlanRefusal.{PlanRefusal}
use Rattle.records.specs.declared.ReadRefusal.{ReadRefusal}
use Rattle.records.specs.declared.ReadRefusal.TheVariants.{CutShort, BytesAfter, WrongMark, Plan}
use Rattle.records.specs.declared.PlanRefusal.TheVariants.{ShortOutput}
use Rattle.records.specs.Mark.{mark}
use Rattle.records.specs.Write.{Given, given, plan_tests}
use Rattle.records.specs.Scan.{Found, found, side_at, length_at, numbers_at, behind}

-- ---- the numbers

-- what the numbers come to: all of them, the cells apart, with the place of the moves; or the first fault
abbrev pub Begun : Type 0
Begun = Result (Numbers × List ℕ × ℕ) ReadRefusal

abbrev pub begun : Numbers → List ℕ → ℕ → Begun
begun n cells at = Ok (n, cells, at)

abbrev pub numbers_of : ℕ → ℕ → List ℕ → ℕ → Numbers
numbers_of width height plan moves =
    record {
      width = width;
      height = height;
      ceiling = get_or plan 0 0;
      p = get_or plan 1 0;
      q = get_or plan 2 0;
      visits = get_or plan 3 0;
      length = moves;
    }

-- from the length on, the numbers before it known; from ceiling, p, q and visits on; from the cells on; from the height on
unfoldable pub length_on : List ℕ → ℕ → ℕ → List ℕ → List ℕ → ℕ → Begun
length_on bytes width height cells plan at =
    behind (length_at bytes at) λ moves next. begun (numbers_of width height plan moves) cells next

unfoldable pub plan_on : List ℕ → ℕ → ℕ → List ℕ → ℕ → Begun
plan_on bytes width height cells at = behind (numbers_at 4 bytes at) λ plan next. length_on bytes width height cells plan next

unfoldable pub cells_on : List ℕ → ℕ → ℕ → ℕ → Begun
cells_on bytes width height at =
    behind (numbers_at (width * height) bytes at) λ cells next. plan_on bytes width height cells next

unfoldable pub height_on : List ℕ → ℕ → ℕ → Begun
height_on bytes width at = behind (side_at bytes at) λ height next. cells_on bytes width height next

-- all of them: the width stands first
unfoldable pub numbers_in : List ℕ → Begun
numbers_in bytes = behind (side_at bytes 0) λ width next. height_on bytes width next

-- ---- the tests behind them

-- the four bytes at a place are those of a mark
unfoldable pub mark_stands : ℕ → List ℕ → ℕ → Bool
mark_stands m bytes at =
    eqb (get_or bytes at 0) (m / 16777216 % 256)
    && (eqb (get_or bytes (at + 1) 0) (m / 65536 % 256)
    && (eqb (get_or bytes (at + 2) 0) (m / 256 % 256) && eqb (get_or bytes (at + 3) 0) (m % 256)))

-- the moves end before a place: 17 where no mark has room behind it, 20 bytes after the mark, 19 mark wrong
unfoldable pub end_tests : List ℕ → ℕ → List (Test ReadRefusal)
end_tests bytes end =
    test (ltb (length bytes) (end + 4)) (CutShort (length bytes))
    ∷ test (ltb (end + 4) (length bytes)) (BytesAfter (end + 4))
    ∷ test (not (mark_stands (mark (take end bytes)) bytes end)) WrongMark
    ∷ []

-- the plan as it was read, as one that a writer is given
abbrev pub given_of : Numbers → List ℕ → List ℕ → Given
given_of n cells moves = given n.width n.height cells (pos n.ceiling) n.p n.q n.visits moves

-- the output is shorter than n + length
abbrev pub no_room : List ℕ → List ℕ → List ℕ → Bool
no_room cells moves found = ltb (length found) (length cells + length moves)

-- E1's tests in its order
abbrev pub reading_tests : Numbers → List ℕ → List ℕ → List ℕ → List (Test PlanRefusal)
reading_tests n cells moves found = plan_tests (given_of n cells moves) (no_room cells moves found)

-- so many bytes from a place on
abbrev pub moves_at : List ℕ → ℕ → ℕ → List ℕ
moves_at bytes at k = take k (drop at bytes)

-- ---- the answer and the output afterwards

pub record ReadLeft : Type 0 where
  pub answer : Result Numbers ReadRefusal
  pub out : List ℕ

abbrev pub refusing : ReadRefusal → List ℕ → ReadLeft
refusing why found = record { answer = Err why; out = found }

-- a refusal leaves all of the output; else it receives the cells and then the moves, and the rest stays
unfoldable pub leaves_read : Numbers → List ℕ → List ℕ → List ℕ → Option ReadRefusal → ReadLeft
leaves_read n cells moves found (some why) = refusing why found
leaves_read n cells moves found none =
    record { answer = Ok n; out = (cells ++ moves) ++ drop (length cells + length moves) found }

-- by E1's tests
abbrev pub plan_read : Numbers → List ℕ → List ℕ → List ℕ → ReadLeft
plan_read n cells moves found = leaves_read n cells moves found (first_refusal (under Plan (reading_tests n cells moves found)))

-- by test 8 alone
abbrev pub room_read : Numbers → List ℕ → List ℕ → List ℕ → ReadLeft
room_read n cells moves found =
    leaves_read n cells moves found (first_refusal (test (no_room cells moves found) (Plan ShortOutput) ∷ []))

-- by the tests behind the numbers
abbrev pub end_read : List ℕ → List ℕ → Numbers → List ℕ → ℕ → ReadLeft
end_read bytes found n cells at =
    let moves = moves_at bytes at n.length in
    leaves_read n cells moves found
    (first_refusal (end_tests bytes (at + n.length) ++ under Plan (reading_tests n cells moves found)))

abbrev pub begun_read : List ℕ → List ℕ → Begun → ReadLeft
begun_read bytes found (Err why) = refusing why found
begun_read bytes found (Ok (n, cells, at)) = end_read bytes found n cells at

-- the whole of a call
unfoldable pub read_back : List ℕ → List ℕ → ReadLeft
read_back bytes found = begun_read bytes found (numbers_in bytes)

-- an answer and an output are these
pub record ReadSettles (left : ReadLeft) (answer : Result Numbers ReadRefusal) (out : List ℕ) : Type 0 where
  pub answers : answer ≡ left.answer
  pub leaves : out ≡ left.out

-- ---- what the code's functions say of each other

-- several numbers as the code answers them: they fill a buffer
abbrev pub filled : List ℕ → Result ℕ ReadRefusal → Found (List ℕ)
filled buffer (Err why) = Err why
filled buffer (Ok next) = found buffer next

-- all numbers of a record as the code answers them: the cells stand in front of a buffer
abbrev pub with_cells : List ℕ → Result (Numbers × ℕ) ReadRefusal → Begun
with_cells buffer (Err why) = Err why
with_cells buffer (Ok (n, at)) = begun n (take (n.width * n.height) buffer) at

-- a cell as a byte: what no byte can hold is too large for every board, and so is 255
abbrev pub clamped : ℕ → ℕ
clamped v = min v 255

-- a ceiling above 120 as one that is just above it
abbrev pub lowered : ℕ → ℕ
lowered c = min c 121

-- the end's tests as the code answers them
abbrev pub end_said : Option ReadRefusal → Result Unit ReadRefusal
end_said none = Ok tt
end_said (some why) = Err why

-- what is known from the cells on, and from the moves on
pub record CellsRead (width height : ℕ) (cells : List ℕ) : Type 0 where
  pub wide : Side width
  pub high : Side height
  pub long : length cells ≡ width * height

pub record NumbersRead (bytes : List ℕ) (n : Numbers) (cells : List ℕ) (at : ℕ) : Type 0 where
  pub board : CellsRead n.width n.height cells
  pub few : n.length ≤ 120
  pub inside : at ≤ length bytes
