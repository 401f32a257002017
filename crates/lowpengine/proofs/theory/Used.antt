-- How many table numbers an answer leaves cleared: none for a test's refusal, and otherwise those of the search; the table had room for
-- them, and is left with them cleared and the rest as found. Assumes nothing.
use Prim.Native.Nat.{ℕ, ◌≤◌}
use mathlib.Core.Path.{◌≡◌}
use mathlib.Core.List.{◌++◌}
use native.Mathlib.Omega.{arith}
use lib.ListN.{length, drop, replicate}
use Rattle.planner.specs.Answer.{Call, answered, search_ran}
use Rattle.planner.proofs.theory.Lending.{TableLeft, as_found, zeroed, table-left}
use Rattle.lowpengine.specs.Bytes.{numbers_used}

pub record Used (c : Call) (k : ℕ) : Type 0 where
  pub within : k ≤ length c.table
  pub left : (answered c).table ≡ replicate k 0 ++ drop k c.table

pub used : (c : Call) → Used c (numbers_used (search_ran (answered c).answer) c.ceiling)
used c = go (table-left c)
  where
    go : TableLeft c → Used c (numbers_used (search_ran (answered c).answer) c.ceiling)
    go (as_found tested same) = rw tested (record { within = omega arith; left = same })
    go (zeroed searched room same) = rw searched (record { within = room; left = same })
