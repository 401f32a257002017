-- An answer's fields: the paper's number of each refusal, the faulty cell or the bad move's place (0 where none is meant), and the
-- record's length (0 for a refusal). Assumes nothing.
use Rattle.std.specs.Prelude.{ℕ, Result, Ok, Err}
use Rattle.board.specs.Faults.{fault_number, fault_cell}
use Rattle.board.specs.Numbered.{of_refused}
use Rattle.planner.specs.Limits.{limit_number}
use Rattle.records.specs.declared.PlanRefusal.{PlanRefusal}
use Rattle.records.specs.declared.PlanRefusal.TheVariants.{Board, Beyond, TooLong, NoMove, OffGrid, NotSolved, ShortOutput}

abbrev pub refusal_number : PlanRefusal → ℕ
refusal_number (Board fault) = fault_number fault
refusal_number (Beyond limit) = limit_number limit
refusal_number TooLong = 21
refusal_number (NoMove i) = 13
refusal_number (OffGrid i) = 14
refusal_number NotSolved = 22
refusal_number ShortOutput = 8

abbrev pub refusal_place : PlanRefusal → ℕ
refusal_place (Board fault) = fault_cell fault
refusal_place (Beyond limit) = 0
refusal_place TooLong = 0
refusal_place (NoMove i) = i
refusal_place (OffGrid i) = i
refusal_place NotSolved = 0
refusal_place ShortOutput = 0

abbrev pub answer_number : Result ℕ PlanRefusal → ℕ
answer_number answer = of_refused refusal_number answer

abbrev pub answer_place : Result ℕ PlanRefusal → ℕ
answer_place answer = of_refused refusal_place answer

abbrev pub record_length : Result ℕ PlanRefusal → ℕ
record_length (Ok length) = length
record_length (Err why) = 0
