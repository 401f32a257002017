-- The boards of a good shape satisfy the laws of a space: the instance at which the theory of the search is read. Each law is one
-- of the board part's. First a test that passes, as a fact and as an equation; last the static value of a board whose distance is known.
-- Assumes nothing.
use Prim.Native.Nat.{ℕ, ◌+◌, ◌*◌, ◌≤◌, ◌<◌}
use mathlib.Core.Path.{◌≡◌, refl, ap, sym, ◌∙◌, subst}
use mathlib.Core.Bool.{Bool, true, false}
use mathlib.Core.List.{List}
use mathlib.Core.Logic.{inl, inr}
use native.Mathlib.Omega.{arith}
use lib.Dec.{T}
use Rattle.board.specs.declared.Shape.{Shape}
use Rattle.board.specs.Shape.{GoodShape}
use Rattle.board.specs.Board.{IsBoard, empty_cell, is_goal}
use Rattle.board.specs.Moves.{legal}
use Rattle.board.specs.Distance.{distance}
use Rattle.board.proofs.Laws.{OneApart, leads_by_step, step_number, after-board, back-legal, back-after, move-distance}
use Rattle.board.proofs.Laws.{goal-distance, is_goal-sound}
use Rattle.search.specs.declared.Weight.{Weight}
use Rattle.search.specs.Space.{boards}
use Rattle.search.specs.Search.{static}
use Rattle.search.proofs.theory.Laws.{Laws}

pub passed : (t : Bool) → T t → t ≡ true
passed true p = refl
passed false p = absurd p

pub passes : {t : Bool} → t ≡ true → T t
passes e = subst T (sym e) tt

nearer : (a c : ℕ) → OneApart a c → c ≤ 1 + a
nearer a c (inl h) = omega arith
nearer a c (inr h) = omega arith

module _ (s : Shape) (shape : GoodShape s) where
  a_move : (b : List ℕ) (m : ℕ) → T (legal s b m) → m < 4
  unfolding legal
  a_move b m allowed = step_number (leads_by_step s shape (empty_cell b) m allowed)

  at_the_goal : (b : List ℕ) → IsBoard s b → T (is_goal s b) → distance s b ≡ 0
  at_the_goal b board p = ap (distance s) (is_goal-sound s b board.long (passed (is_goal s b) p)) ∙ goal-distance s

  pub board-laws : Laws (boards s) (IsBoard s)
  board-laws =
      record {
        kept = λ b m board allowed. after-board s b m shape board allowed;
        is_move = a_move;
        back_may = λ b m board allowed. back-legal s b m shape board allowed;
        back_makes = λ b m board allowed. back-after s b m shape board allowed;
        closer = λ b m board allowed. nearer _ _ (move-distance s b shape board m allowed);
        near_goal = at_the_goal;
      }

-- f, by the distance
pub valued : (s : Shape) (w : Weight) (g f h : ℕ) (b : List ℕ) → h ≡ distance s b → f ≡ w.q * g + w.p * h → f ≡ static (boards s) w g b
unfolding static
valued s w g f h b known is = is ∙ ap (λ (k : ℕ). w.q * g + w.p * k) known
