-- Which answer has which number: 0 a plan's, 10 and 11 the search's, 9 the odd board's, 15 that of a weight not in lowest terms; and that
-- the search was run exactly for 0, 10 and 11. Assumes nothing.
use Prim.Native.Nat.{ℕ}
use mathlib.Core.Path.{◌≡◌, refl, ap}
use mathlib.Core.Bool.{true, false}
use mathlib.Core.Logic.{inl, inr}
use native.Mathlib.Omega.{arith}
use Rattle.planner.specs.declared.Plan.{Plan}
use Rattle.planner.specs.declared.Limit.{Limit}
use Rattle.planner.specs.declared.Limit.TheVariants.{BadCeiling, BadBudget, BadWeight, NotLowest}
use Rattle.planner.specs.declared.Refusal.TheVariants.{Board, Beyond, ShortBuffer, OddBoard, NoPlan, OutOfVisits}
use Rattle.planner.specs.Answer.{Answer}
use Rattle.std.specs.Prelude.{Ok, Err}
use Rattle.planner.specs.Limits.{limit_number}
use Rattle.planner.specs.Answer.{TestNumber, SearchNumber, number, search_ran}
use Rattle.planner.proofs.theory.Ways.{fault-number, limit-number, fault_early, limit_early, apart, refusal-positive}

pub record IsPlan (a : Answer) : Type 0 where
  pub plan : Plan
  pub is : a ≡ Ok plan

pub plan_by_number : (a : Answer) → number a ≡ 0 → IsPlan a
plan_by_number (Ok pl) e = record { plan = pl; is = refl }
plan_by_number (Err r) e = absurd (omega (arith, refusal-positive r))

pub record IsNoPlan (a : Answer) : Type 0 where
  pub count : ℕ
  pub is : a ≡ Err (NoPlan count)

pub no_plan_by_number : (a : Answer) → number a ≡ 10 → IsNoPlan a
no_plan_by_number (Ok pl) e = absurd (omega arith)
no_plan_by_number (Err (Board f)) e = absurd (omega (arith, fault-number f))
no_plan_by_number (Err (Beyond l)) e = absurd (omega (arith, limit-number l))
no_plan_by_number (Err ShortBuffer) e = absurd (omega arith)
no_plan_by_number (Err OddBoard) e = absurd (omega arith)
no_plan_by_number (Err (NoPlan v)) e = record { count = v; is = refl }
no_plan_by_number (Err (OutOfVisits v)) e = absurd (omega arith)

pub record IsSpent (a : Answer) : Type 0 where
  pub count : ℕ
  pub is : a ≡ Err (OutOfVisits count)

pub spent_by_number : (a : Answer) → number a ≡ 11 → IsSpent a
spent_by_number (Ok pl) e = absurd (omega arith)
spent_by_number (Err (Board f)) e = absurd (omega (arith, fault-number f))
spent_by_number (Err (Beyond l)) e = absurd (omega (arith, limit-number l))
spent_by_number (Err ShortBuffer) e = absurd (omega arith)
spent_by_number (Err OddBoard) e = absurd (omega arith)
spent_by_number (Err (NoPlan v)) e = absurd (omega arith)
spent_by_number (Err (OutOfVisits v)) e = record { count = v; is = refl }

pub odd_by_number : (a : Answer) → number a ≡ 9 → a ≡ Err OddBoard
odd_by_number (Ok pl) e = absurd (omega arith)
odd_by_number (Err (Board f)) e = absurd (omega (arith, fault-number f))
odd_by_number (Err (Beyond l)) e = absurd (omega (arith, limit-number l))
odd_by_number (Err ShortBuffer) e = absurd (omega arith)
odd_by_number (Err OddBoard) e = refl
odd_by_number (Err (NoPlan v)) e = absurd (omega arith)
odd_by_number (Err (OutOfVisits v)) e = absurd (omega arith)

-- 15 is one limit's alone
not-lowest_limit : (l : Limit) → limit_number l ≡ 15 → l ≡ NotLowest
not-lowest_limit BadCeiling e = absurd (omega arith)
not-lowest_limit BadBudget e = absurd (omega arith)
not-lowest_limit BadWeight e = absurd (omega arith)
not-lowest_limit NotLowest e = refl

pub not-lowest_by_number : (a : Answer) → number a ≡ 15 → a ≡ Err (Beyond NotLowest)
not-lowest_by_number (Ok pl) e = absurd (omega arith)
not-lowest_by_number (Err (Board f)) e = absurd (omega (arith, fault-number f))
not-lowest_by_number (Err (Beyond l)) e = ap (λ (k : Limit). Err (Beyond k)) (not-lowest_limit l e)
not-lowest_by_number (Err ShortBuffer) e = absurd (omega arith)
not-lowest_by_number (Err OddBoard) e = absurd (omega arith)
not-lowest_by_number (Err (NoPlan v)) e = absurd (omega arith)
not-lowest_by_number (Err (OutOfVisits v)) e = absurd (omega arith)

-- the search was run exactly for 0, 10 and 11
pub by_test : (a : Answer) → TestNumber (number a) → search_ran a ≡ false
by_test (Ok pl) early = absurd (apart early (inl refl))
by_test (Err (Board f)) early = refl
by_test (Err (Beyond l)) early = refl
by_test (Err ShortBuffer) early = refl
by_test (Err OddBoard) early = refl
by_test (Err (NoPlan v)) early = absurd (apart early (inr (omega arith)))
by_test (Err (OutOfVisits v)) early = absurd (apart early (inr (omega arith)))

pub by_search : (a : Answer) → SearchNumber (number a) → search_ran a ≡ true
by_search (Ok pl) ended = refl
by_search (Err (Board f)) ended = absurd (apart (fault_early f) ended)
by_search (Err (Beyond l)) ended = absurd (apart (limit_early l) ended)
by_search (Err ShortBuffer) ended = absurd (apart (inl (omega arith)) ended)
by_search (Err OddBoard) ended = absurd (apart (inl (omega arith)) ended)
by_search (Err (NoPlan v)) ended = refl
by_search (Err (OutOfVisits v)) ended = refl
