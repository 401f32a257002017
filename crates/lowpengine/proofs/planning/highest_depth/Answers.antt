-- `lowpengine::planning::highest_depth` meets its contract. The ceiling is read back from its bits, which changes nothing (`to_z-of_z`).
-- Assumes nothing.
use Prim.Native.Nat.{ℕ, ◌^◌, ◌<◌}
use mathlib.Core.Path.{◌≡◌, refl, subst, ◌∙◌}
use lib.IntN.{ℤ, pos, negsuc, nat_abs}
use mir.Syntax.{w32}
use mir.Val.{SFits}
use mir.ValLaws.{to_z-of_z}
use native.Mathlib.Omega.{arith}
use Rattle.std.proofs.lemmas.Result.{Ok-from_Ok_iff, IsErr-from_ok_iff}
use Rattle.std.specs.Int.{FitsUnsignedBits}
use Rattle.std.specs.Prelude.{Result, Ok, Err, OkIff, IsErr}
use Rattle.std.specs.Result.{result_unwrap_or}
use Rattle.planner.specs.Limits.{ceiling_of}
use Rattle.lowpengine.proofs.planning.highest_depth.Goals as goal

module _ {E : Type 0} (r : Result ℕ E) where
  or-0 : IsErr r → result_unwrap_or r 0 ≡ 0
  or-0 = go r
    where
      go : (r : Result ℕ E) → IsErr r → result_unwrap_or r 0 ≡ 0
      go (Ok x) e = let z : ◌≡◌ {A = ℕ} 0 1 = cc in absurd (omega arith)
      go (Err why) e = refl

  depth : (z : ℤ) → SFits w32 z → OkIff r (FitsUnsignedBits 64 z) (nat_abs z) → result_unwrap_or r 0 ≡ ceiling_of z
  unfolding ceiling_of
  depth (pos n) fits iff = rw (Ok-from_Ok_iff r (FitsUnsignedBits 64 (pos n)) n iff (below fits.sfits)) refl
    where
      below : n < 2 ^ 31 → n < 2 ^ 64
      below small = omega arith
  depth (negsuc n) fits iff = or-0 (IsErr-from_ok_iff r ⊥ (nat_abs (negsuc n)) iff (λ x. x))

pub returns : goal.returns
returns c =
    c.unwrap_or.ensures
    ∙ depth c.try_from.result _ c.ranges.ceiling
    (subst (λ z. OkIff c.try_from.result (FitsUnsignedBits 64 z) (nat_abs z)) (to_z-of_z w32 _ c.ranges.ceiling) c.try_from.ensures)
