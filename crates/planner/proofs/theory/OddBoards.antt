-- 9 is given exactly where tests 1 to 8 and 15 pass and the board is odd. Assumes nothing.
use Prim.Native.Nat.{ℕ}
use mathlib.Core.Path.{◌≡◌, refl, ap}
use mathlib.Core.Bool.{true, false}
use mathlib.Core.Logic.{◌↔◌}
use native.Mathlib.Omega.{arith}
use lib.ListN.{length}
use Rattle.board.specs.Tests.{FirstToHold, here, later, NoneHolds}
use Rattle.board.specs.Faults.{fault_tests}
use Rattle.board.specs.Parity.{is_odd}
use Rattle.board.proofs.Laws.{behind-given}
use Rattle.planner.specs.declared.Refusal.{Refusal}
use Rattle.planner.specs.declared.Refusal.TheVariants.{Board, Beyond, OddBoard}
use Rattle.planner.specs.Limits.{ceiling_of, limit_tests}
use Rattle.planner.specs.Answer.{Call, Left, shape_of, short_buffer, last_tests, tests, answered, number}
use Rattle.planner.proofs.theory.Ways.{Refusing, by_board, by_limit, by_last, refusing, refused_by, TestRefused, made-from}
use Rattle.planner.proofs.theory.Numbers.{odd_by_number}

-- tests 1 to 8 and 15 pass, and the board is odd
pub record OddAlone (c : Call) : Type 0 where
  pub board_ok : NoneHolds (fault_tests c.width c.height c.board)
  pub limits_ok : NoneHolds (limit_tests c.ceiling c.budget c.p c.q)
  pub buffers_ok : short_buffer (ceiling_of c.ceiling) (length c.moves) (length c.table) ≡ false
  pub odd : is_odd (shape_of c) c.board ≡ true

module _ (c : Call) where
  by_nine :
      {r : Refusal}
      → r ≡ OddBoard
      → NoneHolds (fault_tests c.width c.height c.board)
      → NoneHolds (limit_tests c.ceiling c.budget c.p c.q)
      → FirstToHold (last_tests c) r
      → OddAlone c
  unfolding last_tests
  by_nine e sound kept (here eight) = let z : ◌≡◌ {A = ℕ} 0 1 = cc in absurd (omega arith)
  by_nine e sound kept (later eight (here nine)) = record { board_ok = sound; limits_ok = kept; buffers_ok = eight; odd = nine }
  by_nine {r = r} e sound kept (later eight (later _ x12)) = elim x12 [ ]

  by_refusal : {r : Refusal} → r ≡ OddBoard → Refusing c r → OddAlone c
  by_refusal e (by_board first) = let z : ◌≡◌ {A = ℕ} 0 1 = cc in absurd (omega arith)
  by_refusal e (by_limit sound first) = let z : ◌≡◌ {A = ℕ} 0 1 = cc in absurd (omega arith)
  by_refusal e (by_last sound kept first) = by_nine e sound kept first

  nine-first : OddAlone c → FirstToHold (tests c) OddBoard
  unfolding tests last_tests
  nine-first it =
      behind-given Board it.board_ok (behind-given Beyond it.limits_ok (later it.buffers_ok (here it.odd)))

  pub nine_exactly : (number (answered c).answer ≡ 9) ↔ OddAlone c
  nine_exactly = (given, λ it. ap (λ (l : Left). number l.answer) (refused_by c (nine-first it)))
    where
      given : number (answered c).answer ≡ 9 → OddAlone c
      given e =
          let from : TestRefused c OddBoard = made-from c (odd_by_number (answered c).answer e) in
          by_refusal refl (refusing c from.first)
