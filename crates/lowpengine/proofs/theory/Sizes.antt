-- How large an answer is: a play's number is at most 14, the record writer's and the reader's at most 22, and the detail of each at most
-- 2^56 - 1.
-- Assumes nothing.
use Rattle.std.specs.Prelude.{Result, Ok, Err}
use Prim.Native.Nat.{ℕ, ◌≤◌}
use mathlib.Core.Path.{refl}
use mathlib.Core.Bool.{Bool, true, false, cond}
use native.Mathlib.Omega.{arith}
use Rattle.board.specs.declared.Fault.{Fault}
use Rattle.board.specs.declared.Fault.TheVariants.{BadShape, BadLength, TooLarge, Repeated}
use Rattle.board.specs.Faults.{fault_number}
use Rattle.player.specs.declared.PlayRefusal.{PlayRefusal}
use Rattle.player.specs.declared.PlayRefusal.TheVariants.{Board, ShortOutput, NoMove, OffGrid}
use Rattle.player.specs.Play.{Played}
use Rattle.player.specs.Answers.{refusal_number, answer_number}
use Rattle.planner.specs.declared.Limit.{Limit}
use Rattle.planner.specs.declared.Limit.TheVariants.{BadCeiling, BadBudget, BadWeight, NotLowest}
use Rattle.planner.specs.Limits.{limit_number}
use Rattle.records.specs.declared.PlanRefusal.{PlanRefusal}
use Rattle.records.specs.declared.PlanRefusal.TheVariants.{Beyond, TooLong, NotSolved}
use Rattle.records.specs.declared.PlanRefusal.TheVariants.{Board as BadBoard, ShortOutput as NoRoom, NoMove as NoSuch, OffGrid as Off}
use Rattle.records.specs.Answers.{refusal_number as unwritten_number, answer_number as written_number}
use Rattle.records.specs.declared.Numbers.{Numbers}
use Rattle.records.specs.declared.ReadRefusal.{ReadRefusal}
use Rattle.records.specs.declared.ReadRefusal.TheVariants.{CutShort, BadNumber, BadSide, LongList, BytesAfter, WrongMark, Plan}
use Rattle.records.specs.Readings.{unread_number, reading_number}
use Rattle.lowpengine.specs.Packed.{farthest, play_detail, record_detail, Narrow, NarrowIn, packed_numbers, reading_detail}

pub fault-number : (f : Fault) → fault_number f ≤ 4
fault-number BadShape = omega arith
fault-number BadLength = omega arith
fault-number (TooLarge i) = omega arith
fault-number (Repeated i) = omega arith

refusal-number : (why : PlayRefusal) → refusal_number why ≤ 14
refusal-number (Board fault) = omega (arith, fault-number fault)
refusal-number ShortOutput = omega arith
refusal-number (NoMove i) = omega arith
refusal-number (OffGrid i) = omega arith

pub play_number : (a : Played) → answer_number a ≤ 14
play_number (Ok goal) = omega arith
play_number (Err why) = refusal-number why

goal_detail : (goal : Bool) → cond goal 1 0 ≤ farthest
goal_detail true = omega arith
goal_detail false = omega arith

pub play-detail : (a : Played) → play_detail a ≤ farthest
play-detail (Ok goal) = goal_detail goal
play-detail (Err why) = omega arith

pub fault-some : (f : Fault) → 1 ≤ fault_number f
fault-some BadShape = omega arith
fault-some BadLength = omega arith
fault-some (TooLarge i) = omega arith
fault-some (Repeated i) = omega arith

limit_some : (l : Limit) → 1 ≤ limit_number l
limit_some BadCeiling = omega arith
limit_some BadBudget = omega arith
limit_some BadWeight = omega arith
limit_some NotLowest = omega arith

limit-number : (l : Limit) → limit_number l ≤ 15
limit-number BadCeiling = omega arith
limit-number BadBudget = omega arith
limit-number BadWeight = omega arith
limit-number NotLowest = omega arith

unwritten_number_lem : (why : PlanRefusal) → unwritten_number why ≤ 22
unwritten_number_lem (BadBoard fault) = omega (arith, fault-number fault)
unwritten_number_lem (Beyond limit) = omega (arith, limit-number limit)
unwritten_number_lem TooLong = omega arith
unwritten_number_lem (NoSuch i) = omega arith
unwritten_number_lem (Off i) = omega arith
unwritten_number_lem NotSolved = omega arith
unwritten_number_lem NoRoom = omega arith

-- and each refusal has a number
pub unwritten_some : (why : PlanRefusal) → 1 ≤ unwritten_number why
unwritten_some (BadBoard fault) = fault-some fault
unwritten_some (Beyond limit) = limit_some limit
unwritten_some TooLong = omega arith
unwritten_some (NoSuch i) = omega arith
unwritten_some (Off i) = omega arith
unwritten_some NotSolved = omega arith
unwritten_some NoRoom = omega arith

pub record_number : (a : Result ℕ PlanRefusal) → written_number a ≤ 22
record_number (Ok length) = omega arith
record_number (Err why) = unwritten_number_lem why

pub record-detail : (a : Result ℕ PlanRefusal) → record_detail a ≤ farthest
record-detail (Ok length) = omega arith
record-detail (Err why) = omega arith

unread-number : (why : ReadRefusal) → unread_number why ≤ 22
unread-number (CutShort i) = omega arith
unread-number (BadNumber i) = omega arith
unread-number (BadSide i) = omega arith
unread-number (LongList i) = omega arith
unread-number (BytesAfter i) = omega arith
unread-number WrongMark = omega arith
unread-number (Plan why) = unwritten_number_lem why

-- and each refusal has a number
pub unread_some : (why : ReadRefusal) → 1 ≤ unread_number why
unread_some (CutShort i) = omega arith
unread_some (BadNumber i) = omega arith
unread_some (BadSide i) = omega arith
unread_some (LongList i) = omega arith
unread_some (BytesAfter i) = omega arith
unread_some WrongMark = omega arith
unread_some (Plan why) = unwritten_some why

pub reading-number : (a : Result Numbers ReadRefusal) → reading_number a ≤ 22
reading-number (Ok n) = omega arith
reading-number (Err why) = unread-number why

numbers_detail : (n : Numbers) → Narrow n → packed_numbers n ≤ farthest
numbers_detail n narrow = omega arith

pub reading-detail : (a : Result Numbers ReadRefusal) → NarrowIn a → reading_detail a ≤ farthest
reading-detail (Ok n) narrow = numbers_detail n (narrow n refl)
reading-detail (Err why) narrow = omega arith
