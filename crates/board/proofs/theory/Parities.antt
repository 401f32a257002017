-- Test 9 is right to refuse: a legal move keeps the parity of inversions, row and column together, and the goal's is even, so no
-- list of moves leads from an odd board to the goal. A move exchanges two values and is one step of the empty cell, so both parts
-- of the sum turn (Inversions, Steps). Assumes nothing.
use Prim.Native.Nat.{ℕ, zero, suc, ◌+◌, ◌%◌, ◌≤◌}
use mathlib.Core.Path.{◌≡◌, refl, sym, ◌∙◌, ap}
use mathlib.Core.Logic.{inl, inr}
use mathlib.Core.Bool.{true, false, true≢false}
use mathlib.Core.List.{List, [], ◌∷◌}
use native.Mathlib.Nat.{zero-div, zero-mod}
use native.Mathlib.Omega.{arith}
use lib.Dec.{T}
use borrow.Author.Tests.{le-ltb, ne_eqb}
use Rattle.board.specs.declared.Shape.{Shape}
use Rattle.board.specs.Shape.{cells, row, column, GoodShape}
use Rattle.board.specs.Board.{IsBoard, empty_cell, in_order, goal}
use Rattle.board.specs.Moves.{legal, after}
use Rattle.board.specs.Lists.{LegalList, end_board, Solves}
use Rattle.board.specs.Parity.{lower, inversions, parity_sum, is_odd}
use Rattle.board.proofs.theory.OneApart.{OneApart}
use Rattle.board.proofs.theory.Boards.{empty-inside, goal-empty}
use Rattle.board.proofs.theory.Steps.{step_sum}
use Rattle.board.proofs.theory.Moving.{target, legal_step, target-inside, target-elsewhere, after_swaps, after-empty, after-board}
use Rattle.board.proofs.theory.Inversions.{swap_turns-inversions}

-- ---- the goal is even

none-lower : (x i k : ℕ) → x ≤ i → lower x (in_order i k) ≡ 0
unfolding lower in_order
none-lower x i zero h = refl
none-lower x i (suc k) h = rw (le-ltb i x h) (omega (arith, none-lower x (suc i) k (omega arith)))

no_inversions : (i k : ℕ) → inversions (in_order i k) ≡ 0
unfolding inversions in_order
no_inversions i zero = refl
no_inversions i (suc k) = omega (arith, none-lower i (suc i) k (omega arith), no_inversions (suc i) k)

pub goal-inversions : (s : Shape) → inversions (goal s) ≡ 0
unfolding goal
goal-inversions s = no_inversions 0 (cells s)

pub goal-not-odd : (s : Shape) → GoodShape s → is_odd s (goal s) ≡ false
unfolding is_odd parity_sum
goal-not-odd s shape = ne_eqb (parity_sum s (goal s) % 2) 1
    (rw (goal-empty s shape) (omega (arith, goal-inversions s, zero-div s.width, zero-mod s.width)))

-- ---- a move turns both parts of the sum

both-turn : (a c x y u v : ℕ) → (a + c) % 2 ≡ 1 → OneApart (x + y) (u + v) → (c + x + y) % 2 ≡ (a + u + v) % 2
both-turn a c x y u v h (inl e) = omega arith
both-turn a c x y u v h (inr e) = omega arith

module _ (s : Shape) (b : List ℕ) (m : ℕ) (shape : GoodShape s) (board : IsBoard s b) (allowed : T (legal s b m)) where
  move-turns-inversions : (inversions (after s b m) + inversions b) % 2 ≡ 1
  move-turns-inversions =
      rw (after_swaps s b m shape board allowed)
      (swap_turns-inversions b (empty_cell b) (target s b m) (rw board.long board.once)
      (λ e. target-elsewhere s b m shape board allowed (sym e))
      (rw board.long (empty-inside s b shape board)) (rw board.long (target-inside s b m shape board allowed)))

  move_keeps_sum : parity_sum s (after s b m) % 2 ≡ parity_sum s b % 2
  unfolding parity_sum
  move_keeps_sum =
      rw (after-empty s b m shape board allowed)
      (sym (both-turn (inversions (after s b m)) (inversions b) (row s e) (column s e) (row s t) (column s t)
      move-turns-inversions (step_sum (legal_step s b m shape board allowed))))
    where
      e : ℕ
      e = empty_cell b

      t : ℕ
      t = target s b m

  pub move_keeps_parity : is_odd s (after s b m) ≡ is_odd s b
  unfolding is_odd
  move_keeps_parity = rw move_keeps_sum

-- ---- so no list of moves solves an odd board

module _ (s : Shape) (shape : GoodShape s) where
  pub list_keeps_parity : (ms b : List ℕ) → IsBoard s b → LegalList s b ms → is_odd s (end_board s b ms) ≡ is_odd s b
  list_keeps_parity [] b board plays = refl
  list_keeps_parity (m ∷ ms) b board plays =
      list_keeps_parity ms (after s b m) (after-board s b m shape board plays.0) plays.1
      ∙ move_keeps_parity s b m shape board plays.0

pub odd-never_solved : (s : Shape) (b : List ℕ) → GoodShape s → IsBoard s b → is_odd s b ≡ true → (ms : List ℕ) → Solves s b ms → ⊥
odd-never_solved s b shape board odd ms solves =
    let kept = list_keeps_parity s shape ms b board solves.plays in
    true≢false (sym odd ∙ sym kept ∙ ap (is_odd s) solves.reaches ∙ goal-not-odd s shape)
