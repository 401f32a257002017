-- A packed answer is taken apart again: fields that stand apart come back as they were. First the four fields of a plan's answer, then the
-- two of a play's and of the record writer's, then the eight of a record that was read. Assumes nothing.
use Rattle.std.specs.Prelude.{Result, Ok}
use Prim.Native.Nat.{ℕ, ◌/◌, ◌%◌, ◌^◌}
use mathlib.Core.Path.{◌≡◌}
use native.Mathlib.Omega.{arith}
use Rattle.planner.specs.Answer.{Call, answered, number, cell, plan_length, visits}
use Rattle.planner.proofs.theory.Small.{answered-small}
use Rattle.player.specs.Play.{Played}
use Rattle.player.specs.Answers.{answer_number}
use Rattle.records.specs.declared.PlanRefusal.{PlanRefusal}
use Rattle.records.specs.declared.ReadRefusal.{ReadRefusal}
use Rattle.records.specs.Answers.{answer_number as written_number}
use Rattle.records.specs.declared.Numbers.{Numbers}
use Rattle.records.specs.Readings.{reading_number}
use Rattle.lowpengine.specs.Packed.{Apart, packed, packed_plan, play_detail, packed_play, record_detail, packed_record}
use Rattle.lowpengine.specs.Packed.{Narrow, reading_detail, packed_reading}
use Rattle.lowpengine.proofs.theory.Sizes.{play_number, record_number, reading-number}

-- x read as four fields
pub record Reads (x number cell length visits : ℕ) : Type 0 where
  pub number_read : x % 256 ≡ number
  pub cell-read : x / 256 % 256 ≡ cell
  pub length-read : x / 65536 % 65536 ≡ length
  pub visits-read : x / 2 ^ 32 ≡ visits

reads_fields : (number cell length visits : ℕ) → Apart number cell length
    → Reads (packed number cell length visits) number cell length visits
reads_fields number cell length visits apart =
    record { number_read = omega arith; cell-read = omega arith; length-read = omega arith; visits-read = omega arith }

-- the answer of any call
pub answer_reads : (c : Call) → let a = (answered c).answer in Reads (packed_plan a) (number a) (cell a) (plan_length a) (visits a)
answer_reads c =
    let small = answered-small c in
    let a = (answered c).answer in
    reads_fields (number a) (cell a) (plan_length a) (visits a)
    (record { small-number = omega arith; small-cell = omega arith; small-length = omega arith })

-- any answer of the player
pub play_number-read : (a : Played) → packed_play a % 256 ≡ answer_number a
play_number-read a = omega (arith, play_number a)

pub play_detail_read : (a : Played) → packed_play a / 256 ≡ play_detail a
play_detail_read a = omega (arith, play_number a)

-- any answer of the record writer
pub record_number-read : (a : Result ℕ PlanRefusal) → packed_record a % 256 ≡ written_number a
record_number-read a = omega (arith, record_number a)

pub record_detail_read : (a : Result ℕ PlanRefusal) → packed_record a / 256 ≡ record_detail a
record_detail_read a = omega (arith, record_number a)

-- any answer of the record reader
pub reading-number-read : (a : Result Numbers ReadRefusal) → packed_reading a % 256 ≡ reading_number a
reading-number-read a = omega (arith, reading-number a)

pub reading_detail_read : (a : Result Numbers ReadRefusal) → packed_reading a / 256 ≡ reading_detail a
reading_detail_read a = omega (arith, reading-number a)

-- x read as the numbers of a record
pub record ReadsNumbers (x : ℕ) (n : Numbers) : Type 0 where
  pub number_read : x % 256 ≡ 0
  pub width_read : x / 2 ^ 8 % 8 ≡ n.width
  pub height-read : x / 2 ^ 11 % 8 ≡ n.height
  pub ceiling-read : x / 2 ^ 14 % 128 ≡ n.ceiling
  pub p-read : x / 2 ^ 21 % 128 ≡ n.p
  pub q-read : x / 2 ^ 28 % 128 ≡ n.q
  pub length-read : x / 2 ^ 35 % 128 ≡ n.length
  pub visits-read : x / 2 ^ 42 ≡ n.visits

pub numbers-read : (n : Numbers) → Narrow n → ReadsNumbers (packed_reading (Ok n)) n
numbers-read n narrow =
    record {
      number_read = omega arith;
      width_read = omega arith;
      height-read = omega arith;
      ceiling-read = omega arith;
      p-read = omega arith;
      q-read = omega arith;
      length-read = omega arith;
      visits-read = omega arith;
    }
