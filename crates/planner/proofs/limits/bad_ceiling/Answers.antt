-- `planner::limits::bad_ceiling` meets its contract. A signed number is read back from its bits, which changes nothing (`to_z-of_z`).
-- Assumes nothing.
use mathlib.Core.Path.{◌≡◌, refl, subst, sym}
use mathlib.Core.Bool.{true, false, true≢false}
use native.Mathlib.Omega.{arith}
use lib.IntN.{ℤ, pos, negsuc}
use lib.Signed.{lt_z}
use mir.Syntax.{w32}
use mir.ValLaws.{to_z-of_z}
use borrow.Author.Tests.{ltb-true}
use Rattle.planner.specs.Limits.{bad_ceiling}
use Rattle.planner.proofs.limits.bad_ceiling.Goals as goal

below_zero : (z y : ℤ) → y ≡ z → lt_z y (pos 0) ≡ true → lt_z y (pos 0) ≡ bad_ceiling z
unfolding bad_ceiling
below_zero z y same = subst (λ (x : ℤ). lt_z x (pos 0) ≡ true → lt_z x (pos 0) ≡ bad_ceiling z) (sym same) (of z)
  where
    of : (x : ℤ) → lt_z x (pos 0) ≡ true → lt_z x (pos 0) ≡ bad_ceiling x
    of (pos n) e = absurd (omega (arith, ltb-true n 0 e))
    of (negsuc n) e = refl

not-below-zero : (z y : ℤ) → y ≡ z → lt_z y (pos 0) ≡ false → lt_z (pos 120) y ≡ bad_ceiling z
unfolding bad_ceiling
not-below-zero z y same = subst (λ (x : ℤ). lt_z x (pos 0) ≡ false → lt_z (pos 120) x ≡ bad_ceiling z) (sym same) (of z)
  where
    of : (x : ℤ) → lt_z x (pos 0) ≡ false → lt_z (pos 120) x ≡ bad_ceiling x
    of (pos n) e = refl
    of (negsuc n) e = absurd (true≢false e)

pub returns-then-ceiling-lt0 : goal.returns-then-ceiling-lt0
returns-then-ceiling-lt0 c =
    below_zero _ _ (to_z-of_z w32 _ c.ranges.ceiling) c.if-ceiling-lt0.true

pub returns-else-ceiling-lt0 : goal.returns-else-ceiling-lt0
returns-else-ceiling-lt0 c =
    not-below-zero _ _ (to_z-of_z w32 _ c.ranges.ceiling) c.if-ceiling-lt0.false
