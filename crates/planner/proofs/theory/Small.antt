-- How large the fields of a call's answer can be. What holds them in fewer bits rests on this. Assumes nothing.
use Prim.Native.Nat.{◌≤◌}
use mathlib.Core.Path.{◌≡◌, refl}
use native.Mathlib.Omega.{arith}
use Rattle.board.proofs.Laws.{fault-cell-inside, faulty-given}
use Rattle.board.specs.declared.Fault.{Fault}
use Rattle.board.specs.Faults.{fault_cell}
use Rattle.planner.specs.declared.Plan.{Plan}
use Rattle.planner.specs.declared.Refusal.TheVariants.{Board, Beyond, ShortBuffer, OddBoard, NoPlan, OutOfVisits}
use Rattle.planner.specs.Answer.{Answer}
use Rattle.std.specs.Prelude.{Ok, Err}
use Rattle.planner.specs.Answer.{Call, answered, number, cell, plan_length, visits}
use Rattle.planner.proofs.theory.Passing.{ceiling-passes, budget-passes}
use Rattle.planner.proofs.theory.Ways.{Clear, clear, Refusing, by_board, by_last, refusing, fault-number, limit-number}
use Rattle.planner.proofs.theory.Ways.{last-number, PlanFrom, TestRefused, NoPlanFrom, SpentFrom, made-from}
use Rattle.planner.proofs.theory.Kept.{PlanMade, plan-made}

pub record Small (a : Answer) : Type 0 where
  pub number-most : number a ≤ 15
  pub cell-most : cell a ≤ 15
  pub length_most : plan_length a ≤ 120
  pub visits-most : visits a ≤ 1000000

module _ (c : Call) where
  budget-most : Clear c → c.budget ≤ 1000000
  budget-most clean = (budget-passes c.budget clean.limits.budget_ok).1

  cell-inside : (f : Fault) → Refusing c (Board f) → fault_cell f ≤ 15
  cell-inside f (by_board first) =
      fault-cell-inside c.width c.height c.board f (faulty-given c.width c.height c.board f first)
  cell-inside f (by_last sound kept first) = absurd (omega (arith, fault-number f, last-number c first))

  planned-small : (pl : Plan) → PlanFrom c pl → PlanMade c pl → Small (Ok pl)
  planned-small pl from made =
      let clean = clear c from.passed in
      omega (arith, made.within, ceiling-passes c.ceiling clean.limits.ceiling_ok, made.counted, budget-most clean)

  pub answer-small : (a : Answer) → (answered c).answer ≡ a → Small a
  answer-small (Ok pl) e = planned-small pl (made-from c e) (plan-made c pl e)
  answer-small (Err (Board f)) e =
      let from : TestRefused c (Board f) = made-from c e in
      omega (arith, fault-number f, cell-inside f (refusing c from.first))
  answer-small (Err (Beyond l)) e = omega (arith, limit-number l)
  answer-small (Err ShortBuffer) e = omega arith
  answer-small (Err OddBoard) e = omega arith
  answer-small (Err (NoPlan v)) e =
      let from : NoPlanFrom c v = made-from c e in
      omega (arith, from.is, budget-most (clear c from.passed))
  answer-small (Err (OutOfVisits v)) e =
      let from : SpentFrom c v = made-from c e in
      omega (arith, from.is, budget-most (clear c from.passed))

pub answered-small : (c : Call) → Small (answered c).answer
answered-small c = answer-small c (answered c).answer refl
