-- An answer as one 64-bit number. A plan's answer has four fields: the number (0 for a plan), the cell from bit 8, the length from
-- bit 16 and the visits from bit 32. A play's answer has the number (0 for a list that was played) and one detail from bit 8, and so have
-- the record writer's (0 for a record that was written), the reader's (0 for a record that was read), whose detail may be seven fields,
-- and the reachability test's (0 where 9 is not given).
-- Assumes nothing.
use Rattle.std.specs.Prelude.{ℕ, ◌+◌, ◌*◌, ◌-◌, ◌^◌, ◌<◌, min, ◌≡◌, Bool, cond, List, Result, Ok, Err}
use Rattle.board.specs.declared.Shape.{Shape}
use Rattle.board.specs.declared.Fault.{Fault}
use Rattle.board.specs.Faults.{tested, fault_number, fault_cell}
use Rattle.board.specs.Parity.{is_odd}
use Rattle.planner.specs.Answer.{Answer}
use Rattle.planner.specs.declared.Refusal.{Refusal}
use Rattle.planner.specs.declared.Refusal.TheVariants.{Board, OddBoard}
use Rattle.planner.specs.Answer.{number, cell, plan_length, visits}
use Rattle.player.specs.Play.{Played}
use Rattle.player.specs.Answers.{answer_number, refusal_place}
use Rattle.records.specs.declared.PlanRefusal.{PlanRefusal}
use Rattle.records.specs.declared.ReadRefusal.{ReadRefusal}
use Rattle.records.specs.Answers.{answer_number as written_number, refusal_place as unwritten_place}
use Rattle.records.specs.declared.Numbers.{Numbers}
use Rattle.records.specs.Readings.{reading_number, unread_place}

-- fields that do not run into each other
pub record Apart (number cell length : ℕ) : Type 0 where
  pub small-number : number < 2 ^ 8
  pub small-cell : cell < 2 ^ 8
  pub small-length : length < 2 ^ 16

abbrev pub packed : ℕ → ℕ → ℕ → ℕ → ℕ
packed number cell length visits = number + 2 ^ 8 * cell + 2 ^ 16 * length + 2 ^ 32 * visits

abbrev pub packed_plan : Answer → ℕ
packed_plan a = packed (number a) (cell a) (plan_length a) (visits a)

-- the largest place that is told
abbrev pub farthest : ℕ
farthest = 2 ^ 56 - 1

-- what stands from bit 8 on beside a number: what is told of an answer, or a refusal's place
abbrev pub detail : {T R : Type 0} → (T → ℕ) → (R → ℕ) → Result T R → ℕ
detail of place (Ok x) = of x
detail of place (Err why) = min (place why) farthest

-- of a list that was played: 1 exactly if it ends at the goal; of a refusal: the cell of 3 and 4, the place of 13 and 14, else 0
abbrev pub play_detail : Played → ℕ
play_detail a = detail (λ (goal : Bool). cond goal 1 0) refusal_place a

abbrev pub packed_play : Played → ℕ
packed_play a = answer_number a + 2 ^ 8 * play_detail a

-- of a record that was written: its length; of a refusal: the cell of 3 and 4, the place of 13 and 14, else 0
abbrev pub record_detail : Result ℕ PlanRefusal → ℕ
record_detail a = detail (λ length. min length farthest) unwritten_place a

abbrev pub packed_record : Result ℕ PlanRefusal → ℕ
packed_record a = written_number a + 2 ^ 8 * record_detail a

-- the numbers of a record that was read do not run into each other
pub record Narrow (n : Numbers) : Type 0 where
  pub small_width : n.width < 2 ^ 3
  pub small-height : n.height < 2 ^ 3
  pub small-ceiling : n.ceiling < 2 ^ 7
  pub small-p : n.p < 2 ^ 7
  pub small-q : n.q < 2 ^ 7
  pub small-length : n.length < 2 ^ 7
  pub small-visits : n.visits < 2 ^ 20

abbrev pub NarrowIn : Result Numbers ReadRefusal → Type 0
NarrowIn a = (n : Numbers) → a ≡ Ok n → Narrow n

-- width, height, ceiling, p, q, length and visits, each above the bits of those before it: 3, 3, 7, 7, 7, 7 and 20 of them
abbrev pub packed_numbers : Numbers → ℕ
packed_numbers n =
    n.width
    + 2 ^ 3 * (n.height + 2 ^ 3 * (n.ceiling + 2 ^ 7 * (n.p + 2 ^ 7 * (n.q + 2 ^ 7 * (n.length + 2 ^ 7 * n.visits)))))

-- of a record that was read: its numbers; of a refusal: the place
abbrev pub reading_detail : Result Numbers ReadRefusal → ℕ
reading_detail a = detail packed_numbers unread_place a

abbrev pub packed_reading : Result Numbers ReadRefusal → ℕ
packed_reading a = reading_number a + 2 ^ 8 * reading_detail a

-- of the reachability test: tests 1 to 4 with the cell, then 9 for an odd board, and else 0
abbrev pub packed_fault : Fault → ℕ
packed_fault f = fault_number f + 2 ^ 8 * fault_cell f

abbrev pub odd_number : Shape → List ℕ → ℕ
odd_number s b = cond (is_odd s b) 9 0

unfoldable pub reach_after : Result Shape Fault → List ℕ → ℕ
reach_after (Err f) b = packed_fault f
reach_after (Ok s) b = odd_number s b

abbrev pub packed_reach : ℕ → ℕ → List ℕ → ℕ
packed_reach width height b = reach_after (tested width height b) b

-- the same as an answer: the refusals 1 to 4 and 9
abbrev pub reached_after : Result Shape Fault → List ℕ → Result Unit Refusal
reached_after (Err f) b = Err (Board f)
reached_after (Ok s) b = cond (is_odd s b) (Err OddBoard) (Ok tt)

abbrev pub reached : ℕ → ℕ → List ℕ → Result Unit Refusal
reached width height b = reached_after (tested width height b) b
