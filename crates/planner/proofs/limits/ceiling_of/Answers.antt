-- `planner::limits::ceiling_of` meets its contract: a ceiling that passed its test is not below 0 and fits. Assumes nothing.
use mathlib.Core.Path.{◌≡◌, refl, subst, sym, ap, ◌∙◌}
use mathlib.Core.Bool.{false, true≢false}
use native.Mathlib.Omega.{arith}
use lib.Dec.{T}
use lib.IntN.{ℤ, pos, negsuc, nat_abs}
use lib.Signed.{non_neg}
use mir.Syntax.{w32, w64}
use mir.Val.{Fits}
use mir.ValLaws.{to_z-of_z}
use borrow.Author.Tests.{ltb-false}
use Rattle.planner.specs.Limits.{bad_ceiling, ceiling_of}
use Rattle.planner.proofs.limits.ceiling_of.Goals as goal

casts : (z : ℤ) → bad_ceiling z ≡ false → T (non_neg z) × Fits w64 (nat_abs z)
unfolding bad_ceiling
casts (pos n) e = (tt, record { fits = omega (arith, ltb-false 120 n e) })
casts (negsuc n) e = absurd (true≢false e)

number_of : (z : ℤ) → bad_ceiling z ≡ false → nat_abs z ≡ ceiling_of z
unfolding bad_ceiling ceiling_of
number_of (pos n) e = refl
number_of (negsuc n) e = absurd (true≢false e)

pub overflow_cast-result : goal.overflow_cast-result
overflow_cast-result c =
    subst (λ (z : ℤ). T (non_neg z) × Fits w64 (nat_abs z)) (sym (to_z-of_z w32 c.args.ceiling c.ranges.ceiling))
    (casts c.args.ceiling c.requires)

pub returns : goal.returns
returns c =
    ap nat_abs (to_z-of_z w32 c.args.ceiling c.ranges.ceiling) ∙ number_of c.args.ceiling c.requires
