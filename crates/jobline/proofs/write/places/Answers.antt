-- `write::places` meets its contract: a number from ten to the k on, and below ten to the k + 1, has k + 1 digits.
-- Assumes nothing.
use Prim.Native.Nat.{ℕ, ◌+◌, ◌*◌, ◌^◌, ◌≤◌, ◌<◌}
use native.Mathlib.Omega.{arith}
use native.Mathlib.Nat.{pow-suc}
use mathlib.Core.Path.{◌≡◌, ap}
use lib.ListN.{length}
use Rattle.std.specs.Prelude.{Option, None, Some, IfNone, IfSome, unwrap_or}
use Rattle.jobline.specs.Line.{decimal}
use Rattle.jobline.proofs.theory.Decimal.{decimal-small, decimal-length, decimal-long}
use Rattle.jobline.proofs.write.places.Goals as goal

places_is : (n : ℕ) (log : Option ℕ) → IfNone log (n ≡ 0) → IfSome log (λ k. 10 ^ k ≤ n) → IfSome log (λ k. n < 10 * 10 ^ k)
    → unwrap_or log 0 + 1 ≡ length (decimal n)
places_is n None zero low high = omega (arith, ap length (decimal-small n (omega arith)))
places_is n (Some k) zero low high = omega (arith, decimal-long n k low, decimal-length n k (omega (arith, pow-suc 10 k)))

pub returns-clause-value : goal.returns-clause-value
returns-clause-value c =
    let log = c.checked_ilog10 in
    rw c.unwrap_or.ensures (places_is c.args.n log.result log.ensures.none log.ensures.power_le log.ensures.next_power_gt)
