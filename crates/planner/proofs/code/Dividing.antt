-- The loop that looks for a number above 1 that divides both p and q, by going up from 2: `Sought p q d` is its invariant at d.
--     begin     it holds at 2
--     further   where d, the number that was tried, does not divide both, it holds at d + 1
--     found     where it does, the test for 15 holds
--     nowhere   past q it does not: no number above q divides q
-- Assumes nothing.
use Prim.Native.Nat.{ℕ, ◌+◌, ◌≤◌, ◌<◌}
use mathlib.Core.Path.{◌≡◌, refl, sym, ap, ◌∙◌}
use mathlib.Core.Bool.{Bool, true, false, true≢false}
use mathlib.Core.Logic.{◌⊎◌, inl, inr}
use native.Mathlib.Nat.{eq-or-lt_of_le, le_of_dvd}
use native.Mathlib.Omega.{arith}
use Rattle.planner.specs.Limits.{CommonDivisor, divides_both, shares_divisor}
use Rattle.planner.proofs.theory.Divisors.{divides_given, divides_gives, shares_exactly}

-- no number of 2 to d - 1 divides both
pub record Sought (p q d : ℕ) : Type 0 where
  pub low : 2 ≤ d
  pub none : (e : ℕ) → 2 ≤ e → e < d → divides_both p q e ≡ false

module _ (p q : ℕ) where
  pub begin : Sought p q 2
  begin = record { low = omega arith; none = λ e low high. absurd (omega arith) }

  module _ (d : ℕ) (sought : Sought p q d) where
    pub further : {tried : ℕ} → divides_both p q tried ≡ false → d ≡ tried → Sought p q (d + 1)
    further fails is-d = record { low = omega (arith, sought.low); none = λ e low high. go e low (eq-or-lt_of_le (below e high)) }
      where
        below : (e : ℕ) → e < d + 1 → e ≤ d
        below e high = omega arith

        go : (e : ℕ) → 2 ≤ e → (e ≡ d) ⊎ (e < d) → divides_both p q e ≡ false
        go e low (inl is) = rw is (ap (divides_both p q) is-d ∙ fails)
        go e low (inr high) = sought.none e low high

    pub found : {tried : ℕ} → divides_both p q tried ≡ true → d ≡ tried → true ≡ shares_divisor p q
    found holds is-d =
        let it = divides_given p q d (ap (divides_both p q) is-d ∙ holds) in
        sym ((shares_exactly p q).1 (record { divisor = d; above = omega (arith, sought.low); of-p = it.0; of-q = it.1 }))

    pub nowhere : 1 ≤ q → q < d → false ≡ shares_divisor p q
    nowhere some past = sym (go (shares_divisor p q) refl)
      where
        none : CommonDivisor p q → ⊥
        none c =
            let most = le_of_dvd some c.of-q in
            true≢false
            (sym (divides_gives p q c.divisor c.of-p c.of-q)
            ∙ sought.none c.divisor c.above (omega arith))

        go : (t : Bool) → shares_divisor p q ≡ t → shares_divisor p q ≡ false
        go true e = absurd (none ((shares_exactly p q).0 e))
        go false e = e
