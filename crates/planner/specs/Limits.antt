-- Tests 5 to 7 and 15: a ceiling, a budget and a weight as they were given, in their order. Every caller's tests 5 to 7 and 15 are these;
-- each refusal has the paper's number. Assumes nothing.
use Rattle.std.specs.Prelude.{ℕ, ◌+◌, ◌%◌, ◌<◌, Bool, true, ◌||◌, ◌&&◌, List, [], ◌∷◌, ltb, eqb, ℤ, pos, negsuc, Result, Ok, Err}
use Rattle.std.specs.Int.{◌∣◌}
use Rattle.std.proofs.Math.Option.{Option, none, some}
use Rattle.board.specs.First.{first_of}
use Rattle.board.specs.Tests.{Test, test, first_refusal}
use Rattle.planner.specs.declared.Limit.{Limit}
use Rattle.planner.specs.declared.Limit.TheVariants.{BadCeiling, BadBudget, BadWeight, NotLowest}
use Rattle.planner.specs.declared.Terms.{Terms}

-- 5: ceiling below 0 or above 120
unfoldable pub bad_ceiling : ℤ → Bool
bad_ceiling (pos n) = ltb 120 n
bad_ceiling (negsuc n) = true

-- a ceiling that is not below 0, as a number of moves
unfoldable pub ceiling_of : ℤ → ℕ
ceiling_of (pos n) = n
ceiling_of (negsuc n) = 0

-- 6: budget not 1 to 1,000,000
unfoldable pub bad_budget : ℕ → Bool
bad_budget budget = ltb budget 1 || ltb 1000000 budget

-- 7: q is 0, or p < q, or p > 64
unfoldable pub bad_weight : ℕ → ℕ → Bool
bad_weight p q = eqb q 0 || (ltb p q || ltb 64 p)

-- 15 (request E5): some number above 1 divides both p and q
pub record CommonDivisor (p q : ℕ) : Type 0 where
  pub divisor : ℕ
  pub above : 1 < divisor
  pub of-p : divisor ∣ p
  pub of-q : divisor ∣ q

unfoldable pub divides_both : ℕ → ℕ → ℕ → Bool
divides_both p q d = eqb (p % d) 0 && eqb (q % d) 0

-- the same as a test, which looks for it among 2, 3, .. p + q + 2; if any number does, one of these does
unfoldable pub shares_divisor : ℕ → ℕ → Bool
shares_divisor p q = ltb (first_of (divides_both p q) 2 (1 + p + q)) (3 + p + q)

unfoldable pub limit_tests : ℤ → ℕ → ℕ → ℕ → List (Test Limit)
limit_tests ceiling budget p q =
    test (bad_ceiling ceiling) BadCeiling
    ∷ test (bad_budget budget) BadBudget
    ∷ test (bad_weight p q) BadWeight
    ∷ test (shares_divisor p q) NotLowest
    ∷ []

-- what they say: a limit that is not kept, or the ceiling and the weight
unfoldable pub said_of : Terms → Option Limit → Result Terms Limit
said_of l (some limit) = Err limit
said_of l none = Ok l

unfoldable pub measured : ℤ → ℕ → ℕ → ℕ → Result Terms Limit
measured ceiling budget p q =
    said_of (record { ceiling = ceiling_of ceiling; weight = record { p = p; q = q } }) (first_refusal (limit_tests ceiling budget p q))

-- the paper's number
abbrev pub limit_number : Limit → ℕ
limit_number BadCeiling = 5
limit_number BadBudget = 6
limit_number BadWeight = 7
limit_number NotLowest = 15
