-- `lowpengine::planning::numbers_used` meets its contract: four for each depth where the search was run, and none otherwise.
-- Assumes nothing.
use Prim.Native.Nat.{ℕ, ◌+◌, ◌*◌, ◌^◌, ◌<◌}
use mathlib.Core.Path.{◌≡◌, sym, ap, ◌∙◌}
use native.Mathlib.Omega.{arith}
use lib.IntN.{ℤ, pos, negsuc}
use mir.Syntax.{w32}
use mir.Val.{SFits}
use mir.ValLaws.{to_z-of_z}
use Rattle.search.specs.Run.{rows_for}
use Rattle.planner.specs.Limits.{ceiling_of}
use Rattle.lowpengine.specs.Bytes.{numbers_used}
use Rattle.lowpengine.proofs.planning.numbers_used.Goals as goal

-- a ceiling of 32 bits
ceiling-small : (z : ℤ) → SFits w32 z → ceiling_of z < 2 ^ 31
unfolding ceiling_of
ceiling-small (pos n) fits = fits.sfits
ceiling-small (negsuc n) fits = omega arith

depth_is : {z y : ℤ} {k : ℕ} → y ≡ z → k ≡ ceiling_of y → k ≡ ceiling_of z
depth_is same e = e ∙ ap ceiling_of same

four-each : {k n : ℕ} → k ≡ n → 4 * k + 4 ≡ rows_for n
four-each e = omega (arith, e)

pub overflow_mul-result : goal.overflow_mul-result
overflow_mul-result c =
    omega (arith, depth_is (to_z-of_z w32 _ c.ranges.ceiling) c.highest_depth.ensures, ceiling-small _ c.ranges.ceiling)

pub overflow_add-result : goal.overflow_add-result
overflow_add-result c =
    omega (arith, depth_is (to_z-of_z w32 _ c.ranges.ceiling) c.highest_depth.ensures, ceiling-small _ c.ranges.ceiling)

pub returns-then-ran : goal.returns-then-ran
returns-then-ran c =
    four-each (depth_is (to_z-of_z w32 _ c.ranges.ceiling) c.highest_depth.ensures)
    ∙ ap (λ b. numbers_used b c.args.ceiling) (sym c.if-ran.true)

pub returns : goal.returns
returns c =
    ap (λ b. numbers_used b c.args.ceiling) (sym c.if-ran.false)
