-- Refusal 15 of a call: exactly when it is given, and what it keeps out. A weight that is taken is in lowest terms, and two that are taken
-- and are the same fraction are equal. Assumes nothing.
use Prim.Native.Nat.{ℕ, ◌*◌}
use mathlib.Core.Path.{◌≡◌, refl, sym, ap, ◌∙◌}
use mathlib.Core.Bool.{false, true≢false}
use mathlib.Core.Logic.{◌↔◌}
use native.Mathlib.Nat.{le_refl}
use native.Mathlib.Omega.{arith}
use lib.IntN.{ℤ}
use Rattle.board.specs.Tests.{FirstToHold, here, later, NoneHolds}
use Rattle.board.specs.Faults.{fault_tests}
use Rattle.board.proofs.Laws.{front-given, behind-given}
use Rattle.planner.specs.declared.Limit.{Limit}
use Rattle.planner.specs.declared.Limit.TheVariants.{NotLowest}
use Rattle.planner.specs.declared.Refusal.{Refusal}
use Rattle.planner.specs.declared.Refusal.TheVariants.{Board, Beyond}
use Rattle.std.specs.Prelude.{Err}
use Rattle.planner.specs.Limits.{bad_ceiling, bad_budget, bad_weight, CommonDivisor, limit_tests, limit_number}
use Rattle.planner.specs.Answer.{Call, Left, tests, answered, refusal_number}
use Rattle.planner.proofs.theory.Divisors.{Lowest, shares_exactly, one-weight}
use Rattle.planner.proofs.theory.Passing.{Kept, weight-passes}
use Rattle.planner.proofs.theory.Ways.{Refusing, by_board, by_limit, by_last, refusing, fault-number, last-number, refused_by}
use Rattle.planner.proofs.theory.Ways.{TestRefused, made-from}

-- 1 to 7 do not hold, and some number above 1 divides both p and q
pub record PastSeven (c : Call) : Type 0 where
  pub board : NoneHolds (fault_tests c.width c.height c.board)
  pub ceiling : bad_ceiling c.ceiling ≡ false
  pub budget : bad_budget c.budget ≡ false
  pub weight : bad_weight c.p c.q ≡ false
  pub shared : CommonDivisor c.p c.q

pub not-lowest-is : (c : Call) → ((answered c).answer ≡ Err (Beyond NotLowest)) ↔ PastSeven c
unfolding limit_tests tests
not-lowest-is c = (given, gives)
  where
    limits : {l : Limit} → NoneHolds (fault_tests c.width c.height c.board)
        → FirstToHold (limit_tests c.ceiling c.budget c.p c.q) l → limit_number l ≡ 15 → PastSeven c
    limits sound (here five) is = absurd (omega arith)
    limits sound (later five (here six)) is = absurd (omega arith)
    limits sound (later five (later six (here seven))) is = absurd (omega arith)
    limits sound (later five (later six (later seven (here fifteen)))) is =
        record { board = sound; ceiling = five; budget = six; weight = seven; shared = (shares_exactly c.p c.q).0 fifteen }
    limits {l = l} sound (later five (later six (later seven (later _ x21)))) is = elim x21 [ ]

    go : {r : Refusal} → Refusing c r → refusal_number r ≡ 15 → PastSeven c
    go (by_board {f} first) is = absurd (omega (arith, fault-number f))
    go (by_limit sound first) is = limits sound first is
    go (by_last sound kept first) is = absurd (omega (arith, last-number c first))

    given : (answered c).answer ≡ Err (Beyond NotLowest) → PastSeven c
    given e =
        let from : TestRefused c (Beyond NotLowest) = made-from c e in
        go (refusing c from.first) refl

    gives : PastSeven c → (answered c).answer ≡ Err (Beyond NotLowest)
    gives it =
        let fifteen = (shares_exactly c.p c.q).1 it.shared in
        let first : FirstToHold (limit_tests c.ceiling c.budget c.p c.q) NotLowest =
        later it.ceiling (later it.budget (later it.weight (here fifteen))) in
        ap (λ (l : Left). l.answer) (refused_by c (behind-given Board it.board (front-given Beyond _ first)))

-- ---- what is taken, by every caller of these tests

pub kept-lowest : {z : ℤ} {budget p q : ℕ} → Kept z budget p q → Lowest p q
kept-lowest {p = p} {q = q} kept shared = true≢false (sym ((shares_exactly p q).1 shared) ∙ kept.lowest_ok)

pub kept_equal : {z z' : ℤ} {budget budget' p q p' q' : ℕ} → Kept z budget p q → Kept z' budget' p' q' → p * q' ≡ p' * q
    → (p ≡ p') × (q ≡ q')
kept_equal {p = p} {q = q} {p' = p'} {q' = q'} kept kept' same =
    one-weight q p q p' q' (le_refl q) (weight-passes p q kept.weight_ok).some (weight-passes p' q' kept'.weight_ok).some
    (kept-lowest kept) (kept-lowest kept') same
