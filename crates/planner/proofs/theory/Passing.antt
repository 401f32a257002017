-- What each of tests 5 to 8 tells where it fails, and what tests 5 to 7 and 15 say where none holds. Assumes nothing.
use Prim.Native.Nat.{ℕ, ◌≤◌}
use mathlib.Core.Path.{◌≡◌, refl}
use mathlib.Core.Bool.{false, ◌||◌, true≢false}
use mathlib.Core.Option.{Option, none, some}
use native.Mathlib.Omega.{arith}
use lib.Dec.{ltb, eqb}
use lib.IntN.{ℤ, pos, negsuc}
use borrow.Author.Tests.{ltb-false, eqb-false}
use Rattle.board.specs.Tests.{first_refusal, FirstToHold, NoneHolds, end, past}
use Rattle.board.proofs.Laws.{neither, first_means, none_means}
use Rattle.search.specs.Run.{rows_for}
use Rattle.planner.specs.declared.Limit.{Limit}
use Rattle.planner.specs.declared.Terms.{Terms}
use Rattle.std.specs.Prelude.{Ok, Err}
use Rattle.planner.specs.Limits.{bad_ceiling, ceiling_of, bad_budget, bad_weight, shares_divisor, limit_tests, said_of, measured}
use Rattle.planner.specs.Answer.{short_buffer}

-- ---- each test by itself

pub ceiling-passes : (z : ℤ) → bad_ceiling z ≡ false → ceiling_of z ≤ 120
unfolding bad_ceiling ceiling_of
ceiling-passes (pos n) e = ltb-false 120 n e
ceiling-passes (negsuc n) e = absurd (true≢false e)

-- a ceiling that is taken is the number of moves that it names
pub ceiling-named : (z : ℤ) → bad_ceiling z ≡ false → pos (ceiling_of z) ≡ z
unfolding bad_ceiling ceiling_of
ceiling-named (pos n) e = refl
ceiling-named (negsuc n) e = absurd (true≢false e)

pub budget-passes : (budget : ℕ) → bad_budget budget ≡ false → (1 ≤ budget) × (budget ≤ 1000000)
unfolding bad_budget
budget-passes budget e =
    let both = neither (ltb budget 1) (ltb 1000000 budget) e in
    (ltb-false budget 1 both.0, ltb-false 1000000 budget both.1)

pub record GoodWeight (p q : ℕ) : Type 0 where
  pub some : 1 ≤ q
  pub order : q ≤ p
  pub most : p ≤ 64

pub weight-passes : (p q : ℕ) → bad_weight p q ≡ false → GoodWeight p q
unfolding bad_weight
weight-passes p q e =
    let both = neither (eqb q 0) (ltb p q || ltb 64 p) e in
    let rest = neither (ltb p q) (ltb 64 p) both.1 in
    let not-zero = eqb-false q 0 both.0 in
    record { some = omega arith; order = ltb-false p q rest.0; most = ltb-false 64 p rest.1 }

pub buffers_pass : (ceiling moves table : ℕ) → short_buffer ceiling moves table ≡ false → (ceiling ≤ moves) × (rows_for ceiling ≤ table)
unfolding short_buffer
buffers_pass ceiling moves table e =
    let both = neither (ltb moves ceiling) (ltb table (rows_for ceiling)) e in
    (ltb-false moves ceiling both.0, ltb-false table (rows_for ceiling) both.1)

-- ---- tests 5 to 7 and 15, one after the other

-- the limits are kept
pub record Kept (ceiling : ℤ) (budget p q : ℕ) : Type 0 where
  pub ceiling_ok : bad_ceiling ceiling ≡ false
  pub budget_ok : bad_budget budget ≡ false
  pub weight_ok : bad_weight p q ≡ false
  pub lowest_ok : shares_divisor p q ≡ false

pub limits-kept : (ceiling : ℤ) (budget p q : ℕ) → NoneHolds (limit_tests ceiling budget p q) → Kept ceiling budget p q
unfolding limit_tests
limits-kept ceiling budget p q (past five (past six (past seven (past fifteen end)))) =
    record { ceiling_ok = five; budget_ok = six; weight_ok = seven; lowest_ok = fifteen }

said_outside : (l : Terms) (o : Option Limit) (limit : Limit) → said_of l o ≡ Err limit → o ≡ some limit
unfolding said_of
said_outside l none limit e = let z : ◌≡◌ {A = ℕ} 0 1 = cc in absurd (omega arith)
said_outside l (some other) limit e = cc

said-within : (l : Terms) (o : Option Limit) (l' : Terms) → said_of l o ≡ Ok l' → (o ≡ none) × (l' ≡ l)
unfolding said_of
said-within l none l' e = (refl, cc)
said-within l (some other) l' e = let z : ◌≡◌ {A = ℕ} 0 1 = cc in absurd (omega arith)

module _ (ceiling : ℤ) (budget p q : ℕ) where
  -- the limits that a ceiling and a weight name
  abbrev pub named : Terms
  named = record { ceiling = ceiling_of ceiling; weight = record { p = p; q = q } }

  pub outside_means : (limit : Limit) → measured ceiling budget p q ≡ Err limit → FirstToHold (limit_tests ceiling budget p q) limit
  unfolding measured
  outside_means limit e =
      first_means (limit_tests ceiling budget p q) limit (said_outside named (first_refusal (limit_tests ceiling budget p q)) limit e)

  pub within_means : (l : Terms) → measured ceiling budget p q ≡ Ok l → NoneHolds (limit_tests ceiling budget p q) × (l ≡ named)
  unfolding measured
  within_means l e =
      let both = said-within named (first_refusal (limit_tests ceiling budget p q)) l e in
      (none_means (limit_tests ceiling budget p q) both.0, both.1)
