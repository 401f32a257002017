-- Common divisors: that the test for 15 holds exactly where some number above 1 divides both p and q, and that one fraction has one
-- weight in lowest terms. The last is shown along Euclid's division: two weights that are the same fraction leave the same whole part and,
-- turned over, remainders that are the same fraction again. Assumes nothing.
use Prim.Native.Nat.{ℕ, zero, suc, ◌+◌, ◌*◌, ◌/◌, ◌%◌, ◌≤◌, ◌<◌, ◌∣◌}
use mathlib.Core.Path.{◌≡◌, refl, sym, ap, ap₂, ◌∙◌}
use mathlib.Core.Bool.{Bool, true, false, ◌&&◌, true≢false}
use mathlib.Core.Logic.{◌↔◌, ◌⊎◌, inl, inr}
use native.Mathlib.Nat.{mod-eq-zero_of_dvd, dvd_of_mod-eq-zero, le_of_dvd, dvd-zero, eq-zero-or-pos, dvd-mod_iff, dvd_refl}
use native.Mathlib.Nat.{mul-lt-mul_of_pos_right, mul-le-mul_left, add-mul, mul_right_comm, mul_comm, mul-suc, zero-mul, mod-lt, div-add-mod}
use native.Mathlib.Decide.{dec_lt}
use native.Mathlib.Omega.{arith}
use lib.Dec.{ltb, eqb}
use borrow.Author.Tests.{ltb-true, lt-ltb, eqb-true, eq-eqb}
use Rattle.board.specs.First.{first_of}
use Rattle.board.proofs.Laws.{first_of_low, first_of_holds, first_of_fails}
use Rattle.planner.specs.Limits.{CommonDivisor, divides_both, shares_divisor}

-- ---- the test

-- d divides both exactly where the test of d says so
both : (a b : Bool) → a && b ≡ true → (a ≡ true) × (b ≡ true)
both true true e = (refl, refl)
both true false e = (refl, e)
both false b e = absurd (true≢false (sym e))

pub divides_given : (p q d : ℕ) → divides_both p q d ≡ true → (d ∣ p) × (d ∣ q)
unfolding divides_both
divides_given p q d e =
    let it = both (eqb (p % d) 0) (eqb (q % d) 0) e in
    (dvd_of_mod-eq-zero d (eqb-true _ _ it.0), dvd_of_mod-eq-zero d (eqb-true _ _ it.1))

pub divides_gives : (p q d : ℕ) → d ∣ p → d ∣ q → divides_both p q d ≡ true
unfolding divides_both
divides_gives p q d of-p of-q = rw (eq-eqb _ _ (mod-eq-zero_of_dvd d of-p), eq-eqb _ _ (mod-eq-zero_of_dvd d of-q))

-- if any number above 1 divides both, one of 2 to p + q + 2 does
within_reach : (p q : ℕ) → CommonDivisor p q → (d : ℕ) × ((1 < d) × (d < 3 + p + q) × (divides_both p q d ≡ true))
within_reach p q c = go (eq-zero-or-pos p) (eq-zero-or-pos q)
  where
    at : (d : ℕ) → 1 < d → d < 3 + p + q → d ∣ p → d ∣ q → (d : ℕ) × ((1 < d) × (d < 3 + p + q) × (divides_both p q d ≡ true))
    at d above low of-p of-q = (d, (above, low, divides_gives p q d of-p of-q))

    go : (p ≡ 0) ⊎ (0 < p) → (q ≡ 0) ⊎ (0 < q) → (d : ℕ) × ((1 < d) × (d < 3 + p + q) × (divides_both p q d ≡ true))
    go (inr some) other =
        let small = le_of_dvd some c.of-p in
        at c.divisor c.above (omega arith) c.of-p c.of-q
    go (inl none) (inr some) =
        let small = le_of_dvd some c.of-q in
        at c.divisor c.above (omega arith) c.of-p c.of-q
    go (inl none) (inl none') = at 2 (omega arith) (omega arith) (rw none (dvd-zero 2)) (rw none' (dvd-zero 2))

pub shares_exactly : (p q : ℕ) → (shares_divisor p q ≡ true) ↔ CommonDivisor p q
unfolding shares_divisor
shares_exactly p q = (given, gives)
  where
    given : ltb (first_of (divides_both p q) 2 (1 + p + q)) (3 + p + q) ≡ true → CommonDivisor p q
    given e =
        let f = divides_both p q in
        let low = first_of_low f 2 (1 + p + q) in
        let holds = first_of_holds f 2 (1 + p + q) (omega (arith, ltb-true (first_of f 2 (1 + p + q)) (3 + p + q) e)) in
        let it = divides_given p q (first_of f 2 (1 + p + q)) holds in
        record { divisor = first_of f 2 (1 + p + q); above = omega arith; of-p = it.0; of-q = it.1 }

    gives : CommonDivisor p q → ltb (first_of (divides_both p q) 2 (1 + p + q)) (3 + p + q) ≡ true
    gives c =
        let near = within_reach p q c in
        elim (dec_lt (first_of (divides_both p q) 2 (1 + p + q)) (3 + p + q)) [
          | yes l ↦ lt-ltb _ _ l
          | no l ↦
              absurd
              (true≢false
              (sym near.1.2
              ∙ first_of_fails (divides_both p q) 2 (1 + p + q) near.0 (omega (arith, near.1.0)) (omega (arith, near.1.1))))
        ]

-- ---- one fraction, one weight

-- no number above 1 divides both
abbrev pub Lowest : ℕ → ℕ → Type 0
Lowest p q = CommonDivisor p q → ⊥

-- of a weight in lowest terms, q and the remainder of p by q are in lowest terms
remainder_lowest : (p q : ℕ) → Lowest p q → Lowest q (p % q)
remainder_lowest p q lowest c =
    lowest (record { divisor = c.divisor; above = c.above; of-p = (dvd-mod_iff c.divisor c.of-p).0 c.of-q; of-q = c.of-p })

-- both sides of p * q' ≡ p' * q, with p as a whole part and a remainder
parted : (a q q' r : ℕ) → (q * a + r) * q' ≡ q * q' * a + r * q'
parted a q q' r = add-mul (q * a) r q' ∙ ap (λ (n : ℕ). n + r * q') (mul_right_comm q a q')

-- two weights that are the same fraction, their whole parts and remainders
module _ (a a' q q' r r' : ℕ) (same : (q * a + r) * q' ≡ (q' * a' + r') * q) where
  in_parts : q * q' * a + r * q' ≡ q * q' * a' + r' * q
  in_parts =
      sym (parted a q q' r) ∙ same ∙ parted a' q' q r' ∙ ap (λ (n : ℕ). n * a' + r' * q) (mul_comm q' q)

  no_less : r < q → 1 ≤ q' → ¬ (a < a')
  no_less low some less =
      omega (
        arith,
        in_parts,
        mul-lt-mul_of_pos_right {k = q'} low some,
        mul-le-mul_left (q * q') less,
        mul-suc (q * q') a,
      )

  -- where the whole parts are the same, the remainders are the same fraction
  rests : a ≡ a' → r * q' ≡ r' * q
  rests whole = let e = ap (λ (n : ℕ). q * q' * n) whole in omega (arith, in_parts)

-- a number that divides the other is 1
whole-one : (p q : ℕ) → 1 ≤ q → p % q ≡ 0 → Lowest p q → q ≡ 1
whole-one p q some none lowest = elim (dec_lt 1 q) [ yes above ↦ absurd (lowest (shared above)) | no low ↦ omega arith ]
  where
    shared : 1 < q → CommonDivisor p q
    shared above = record { divisor = q; above = above; of-p = dvd_of_mod-eq-zero q none; of-q = dvd_refl q }

-- of two weights in lowest terms that are the same fraction, both numbers are the same
pub one-weight : (n p q p' q' : ℕ) → q ≤ n → 1 ≤ q → 1 ≤ q' → Lowest p q → Lowest p' q' → p * q' ≡ p' * q → (p ≡ p') × (q ≡ q')
one-weight zero p q p' q' most some some' lowest lowest' same = absurd (omega arith)
one-weight (suc n) p q p' q' most some some' lowest lowest' same = go (eq-zero-or-pos (p % q)) (eq-zero-or-pos (p' % q')) (one-weight n)
  where
    low : p % q < q
    low = mod-lt p some

    low' : p' % q' < q'
    low' = mod-lt p' some'

    divided : (q * (p / q) + p % q) * q' ≡ (q' * (p' / q') + p' % q') * q
    divided = ap (λ (k : ℕ). k * q') (div-add-mod p q) ∙ same ∙ ap (λ (k : ℕ). k * q) (sym (div-add-mod p' q'))

    whole : p / q ≡ p' / q'
    whole =
        omega (
          arith,
          no_less (p / q) (p' / q') q q' (p % q) (p' % q') divided low some',
          no_less (p' / q') (p / q) q' q (p' % q') (p % q) (sym divided) low' some,
        )

    left : p % q * q' ≡ p' % q' * q
    left = rests (p / q) (p' / q') q q' (p % q) (p' % q') divided whole

    -- one remainder is 0 exactly where the other is
    no_rest : (r r' k k' : ℕ) → r * k ≡ r' * k' → r ≡ 0 → 1 ≤ k' → r' ≡ 0
    no_rest r r' k k' e is some = omega (arith, mul-le-mul_left r' some, ap (λ (m : ℕ). m * k) is, zero-mul k)

    back : q ≡ q' → p % q ≡ p' % q' → p ≡ p'
    back e rest =
        sym (div-add-mod p q) ∙ ap₂ (λ (k m : ℕ). k * m + p % q) e whole ∙ ap (λ (k : ℕ). q' * (p' / q') + k) rest ∙ div-add-mod p' q'

    go : (p % q ≡ 0) ⊎ (0 < p % q) → (p' % q' ≡ 0) ⊎ (0 < p' % q')
        → ((p q p' q' : ℕ) → q ≤ n → 1 ≤ q → 1 ≤ q' → Lowest p q → Lowest p' q' → p * q' ≡ p' * q → (p ≡ p') × (q ≡ q'))
        → (p ≡ p') × (q ≡ q')
    go (inl none) other below =
        let one = whole-one p q some none lowest in
        let none' = no_rest (p % q) (p' % q') q' q left none some in
        let one' = whole-one p' q' some' none' lowest' in
        let e = one ∙ sym one' in
        (back e (none ∙ sym none'), e)
    go (inr more) (inl none') below =
        let none = no_rest (p' % q') (p % q) q q' (sym left) none' some' in
        absurd (omega arith)
    go (inr more) (inr more') below =
        let turned = mul_comm q (p' % q') ∙ sym left ∙ mul_comm (p % q) q' in
        let lower = remainder_lowest p q lowest in
        let lower' = remainder_lowest p' q' lowest' in
        let it = below q (p % q) q' (p' % q') (omega (arith, low)) more more' lower lower' turned in
        (back it.0 it.1, it.0)
