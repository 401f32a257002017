-- What the loop of `records::scan::groups_at` keeps. Assumes nothing.
use Prim.Native.Nat.{ℕ, ◌-◌, ◌^◌, ◌≤◌, ◌<◌}
use mathlib.Core.Path.{◌≡◌}
use mathlib.Core.List.{List}
use Rattle.records.specs.Scan.{groups_at}
use Rattle.records.proofs.scan.groups_at.Given as goal

pub record Looked (bytes : List ℕ) (first value at count : ℕ) : Type 0 where
  pub few : count ≤ 5
  pub small : value < 128 ^ count
  pub rest : groups_at (5 - count) bytes first value at ≡ groups_at 5 bytes first 0 first

abbrev pub invariant-loop-count : goal.invariant-loop-count
invariant-loop-count l =
    Looked l.bytes l.first l.value l.at l._count
