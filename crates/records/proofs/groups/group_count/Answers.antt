-- `groups::group_count` meets its contract: a number from 128 to the k on, and below 128 to the k + 1, has k + 1 groups.
-- Assumes nothing.
use Prim.Native.Nat.{ℕ, zero, suc, ◌+◌, ◌*◌, ◌^◌, ◌≤◌, ◌<◌}
use native.Mathlib.Omega.{arith}
use native.Mathlib.Nat.{pow-suc}
use mathlib.Core.Path.{◌≡◌}
use lib.ListN.{length}
use Rattle.std.specs.Prelude.{Option, None, Some, IsSome, IfSome, unwrap_or, ◌↔◌}
use Rattle.records.specs.Groups.{groups}
use Rattle.records.proofs.theory.Grouping.{groups-few, groups-many, groups-some}
use Rattle.records.proofs.groups.group_count.Goals as goal

groups_counted : (n : ℕ) (log : Option ℕ) → IsSome log ↔ ((0 < n) × (2 ≤ 128)) → IfSome log (λ k. 128 ^ k ≤ n)
    → IfSome log (λ k. n < 128 * 128 ^ k) → unwrap_or log 0 + 1 ≡ length (groups n)
groups_counted zero None some low high = omega (arith, groups-few 0 0 (omega arith), groups-some 0)
groups_counted (suc n) None some low high = let is = some.1 (omega arith, omega arith) in cc
groups_counted n (Some k) some low high = omega (arith, groups-many k n low, groups-few k n (omega (arith, pow-suc 128 k)))

pub returns : goal.returns
returns c =
    let log = c.checked_ilog in
    rw c.unwrap_or.ensures (groups_counted c.args.n log.result log.ensures.variant log.ensures.power_le log.ensures.next_power_gt)
