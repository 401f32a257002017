-- The whole answer of a call (document 01, "Calling the planner"): tests 1 to 7, 15, 8 and 9, then the search; and what stands in both
-- buffers afterwards. Then the paper's number, cell, length and visits of each answer, and whether the search was run. Assumes nothing.
use Rattle.std.specs.Prelude.{ℕ, ◌-◌, ◌≤◌, ◌≡◌, ◌⊎◌, Bool, true, false, ◌||◌, List, [], ◌∷◌, ◌++◌, ltb, ℤ, pos, length, drop}
use Rattle.std.specs.Prelude.{Result, Ok, Err}
use Rattle.std.proofs.Math.Option.{Option, none, some}
use Rattle.board.specs.declared.Shape.{Shape}
use Rattle.board.specs.Tests.{Test, test, first_refusal, under}
use Rattle.board.specs.Faults.{fault_tests, fault_number, fault_cell}
use Rattle.board.specs.Numbered.{of_refused}
use Rattle.board.specs.Parity.{is_odd}
use Rattle.search.specs.declared.Weight.{Weight}
use Rattle.planner.specs.declared.Plan.{Plan}
use Rattle.planner.specs.declared.Terms.{Terms}
use Rattle.planner.specs.declared.Refusal.{Refusal}
use Rattle.planner.specs.declared.Refusal.TheVariants.{Board, Beyond, ShortBuffer, OddBoard, NoPlan, OutOfVisits}
use Rattle.search.specs.Space.{boards}
use Rattle.search.specs.Search.{Outcome, found, value, spent, static, search}
use Rattle.search.specs.Run.{rows_for, cleared_rows}
use Rattle.planner.specs.Limits.{ceiling_of, limit_tests, limit_number}

-- a plan or a refusal
abbrev pub Answer : Type 0
Answer = Result Plan Refusal

-- what a caller gives; the two buffers as they are lent
pub record Call : Type 0 where
  pub width : ℕ
  pub height : ℕ
  pub board : List ℕ
  pub ceiling : ℤ
  pub budget : ℕ
  pub p : ℕ
  pub q : ℕ
  pub moves : List ℕ
  pub table : List ℕ

-- what the caller gets, and the buffers as they are left
pub record Left : Type 0 where
  pub answer : Answer
  pub moves : List ℕ
  pub table : List ℕ

-- 8: move buffer shorter than the ceiling, or table shorter than 4 × (ceiling + 1)
unfoldable pub short_buffer : ℕ → ℕ → ℕ → Bool
short_buffer ceiling moves table = ltb moves ceiling || ltb table (rows_for ceiling)

-- the shape and the weight that a call names
abbrev pub shape_of : Call → Shape
shape_of c = record { width = c.width; height = c.height }

abbrev pub weight_of : Call → Weight
weight_of c = record { p = c.p; q = c.q }

-- tests 8 and 9
unfoldable pub last_tests : Call → List (Test Refusal)
last_tests c =
    test (short_buffer (ceiling_of c.ceiling) (length c.moves) (length c.table)) ShortBuffer
    ∷ test (is_odd (shape_of c) c.board) OddBoard
    ∷ []

-- tests 1 to 7, 15, 8 and 9: the board's, the limits', and these two
unfoldable pub tests : Call → List (Test Refusal)
tests c =
    under Board (fault_tests c.width c.height c.board)
    ++ (under Beyond (limit_tests c.ceiling c.budget c.p c.q) ++ last_tests c)

-- the search of a call that no test refuses
unfoldable pub searched : Call → Outcome
searched c =
    search (boards (shape_of c)) (static (boards (shape_of c)) (weight_of c)) (ceiling_of c.ceiling) c.board c.budget

-- what a test refuses leaves both buffers as found
abbrev pub untouched : Call → Refusal → Left
untouched c r = record { answer = Err r; moves = c.moves; table = c.table }

-- after a search the table's first 4 × (ceiling + 1) numbers are 0 and the rest is as found
abbrev pub cleared : Call → List ℕ
cleared c = cleared_rows (ceiling_of c.ceiling) c.table

-- how the search ends: a plan fills the first of the move bytes; 10 where infinity came back; 11 where a visit was wanting
unfoldable pub concluded : Call → Outcome → Left
concluded c (found ms left) =
    record {
      answer = Ok (record { length = length ms; visits = c.budget - left });
      moves = ms ++ drop (length ms) c.moves;
      table = cleared c;
    }
concluded c (value v left) = record { answer = Err (NoPlan (c.budget - left)); moves = c.moves; table = cleared c }
concluded c spent = record { answer = Err (OutOfVisits c.budget); moves = c.moves; table = cleared c }

-- the first test that holds refuses; where none does, the search is run
unfoldable pub after_tests : Call → Option Refusal → Left
after_tests c (some r) = untouched c r
after_tests c none = concluded c (searched c)

-- the whole answer
unfoldable pub answered : Call → Left
answered c = after_tests c (first_refusal (tests c))

-- the call with these inputs
abbrev pub called : ℕ → ℕ → List ℕ → ℤ → ℕ → ℕ → ℕ → List ℕ → List ℕ → Call
called width height board ceiling budget p q moves table =
    record
    { width = width; height = height; board = board; ceiling = ceiling; budget = budget; p = p; q = q; moves = moves; table = table }

-- the call of a board of a shape within the limits
abbrev pub within : Shape → List ℕ → Terms → ℕ → List ℕ → List ℕ → Call
within s board terms budget moves table =
    called s.width s.height board (pos terms.ceiling) budget terms.weight.p terms.weight.q moves table

-- the answer and both buffers are those
pub record Settles (l : Left) (a : Answer) (moves' table' : List ℕ) : Type 0 where
  pub answer : a ≡ l.answer
  pub moves : moves' ≡ l.moves
  pub table : table' ≡ l.table

-- the paper's number: 0 for a plan
abbrev pub refusal_number : Refusal → ℕ
refusal_number (Board f) = fault_number f
refusal_number (Beyond l) = limit_number l
refusal_number ShortBuffer = 8
refusal_number OddBoard = 9
refusal_number (NoPlan v) = 10
refusal_number (OutOfVisits v) = 11

-- the numbers of the tests, 1 to 9 and 15, and those of a search that was run: 0, or 10 and 11 where it refuses
abbrev pub TestNumber : ℕ → Type 0
TestNumber k = ((1 ≤ k) × (k ≤ 9)) ⊎ (k ≡ 15)

abbrev pub LateNumber : ℕ → Type 0
LateNumber k = (10 ≤ k) × (k ≤ 11)

abbrev pub SearchNumber : ℕ → Type 0
SearchNumber k = (k ≡ 0) ⊎ LateNumber k

abbrev pub number : Answer → ℕ
number a = of_refused refusal_number a

-- the cell: 0 but for 3 and 4
abbrev pub refusal_cell : Refusal → ℕ
refusal_cell (Board f) = fault_cell f
refusal_cell (Beyond l) = 0
refusal_cell ShortBuffer = 0
refusal_cell OddBoard = 0
refusal_cell (NoPlan v) = 0
refusal_cell (OutOfVisits v) = 0

abbrev pub cell : Answer → ℕ
cell a = of_refused refusal_cell a

-- the plan's length: 0 in every refusal
abbrev pub plan_length : Answer → ℕ
plan_length (Ok pl) = pl.length
plan_length (Err r) = 0

-- the visits: 0 in every refusal but 10 and 11
abbrev pub refusal_visits : Refusal → ℕ
refusal_visits (Board f) = 0
refusal_visits (Beyond l) = 0
refusal_visits ShortBuffer = 0
refusal_visits OddBoard = 0
refusal_visits (NoPlan v) = v
refusal_visits (OutOfVisits v) = v

abbrev pub visits : Answer → ℕ
visits (Ok pl) = pl.visits
visits (Err r) = refusal_visits r

-- the search was run: a plan, 10 or 11. Every other refusal is a test's
abbrev pub refused_by_search : Refusal → Bool
refused_by_search (Board f) = false
refused_by_search (Beyond l) = false
refused_by_search ShortBuffer = false
refused_by_search OddBoard = false
refused_by_search (NoPlan v) = true
refused_by_search (OutOfVisits v) = true

abbrev pub search_ran : Answer → Bool
search_ran (Ok pl) = true
search_ran (Err r) = refused_by_search r
