-- What an entry gives: its result, and every lent byte afterwards. The planner's whole answer is that for the table's numbers; the
-- player's, the record writer's and the record reader's are their own. Assumes nothing.
use Rattle.std.specs.Prelude.{ℕ, ◌≡◌, List, ◌++◌}
use Rattle.planner.specs.Answer.{Call, answered, called}
use Rattle.player.specs.Play.{Played}
use Rattle.player.specs.Play.{PlayedAs}
use Rattle.records.specs.Write.{Given, written}
use Rattle.records.specs.Read.{read_back}
use Rattle.lowpengine.specs.Bytes.{numbers, bytes_of, odd_byte}
use Rattle.lowpengine.specs.Packed.{packed_plan, packed_play, packed_record, packed_reading}

-- the planner's call of an entry's inputs c, whose table is as it was lent, in bytes
abbrev pub in_numbers : Call → Call
in_numbers c = called c.width c.height c.board c.ceiling c.budget c.p c.q c.moves (numbers c.table)

pub record PlanGiven (c : Call) (r : ℕ) (moves' table' : List ℕ) : Type 0 where
  pub answer : r ≡ packed_plan (answered (in_numbers c)).answer
  pub moves : moves' ≡ (answered (in_numbers c)).moves
  pub table : table' ≡ bytes_of (answered (in_numbers c)).table ++ odd_byte c.table

-- the player's answer and the output as it leaves it, whose bytes were `found`
pub record PlayGiven (width height : ℕ) (b moves found : List ℕ) (r : ℕ) (out : List ℕ) : Type 0 where
  pub answer : Played
  pub played : PlayedAs width height b moves found answer out
  pub result : r ≡ packed_play answer

-- the record writer's answer and the output as it leaves it, whose bytes were `found`
pub record RecordGiven (g : Given) (found : List ℕ) (r : ℕ) (out' : List ℕ) : Type 0 where
  pub result : r ≡ packed_record (written g found).answer
  pub out : out' ≡ (written g found).out

-- the record reader's answer and the output as it leaves it, whose bytes were `found`
pub record ReadGiven (bytes found : List ℕ) (r : ℕ) (out' : List ℕ) : Type 0 where
  pub result : r ≡ packed_reading (read_back bytes found).answer
  pub out : out' ≡ (read_back bytes found).out
