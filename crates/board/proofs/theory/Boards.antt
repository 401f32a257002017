-- A board's cells: every number stands in one of them, the empty cell is the only one that holds 0, and
-- a board is the goal exactly where `is_goal` says so. In this order; then that the goal is a board and what its empty cell is.
-- Rests on the laws of `first_of` and on the pigeonhole (Firsts, Onto). Assumes nothing.
use Prim.Native.Nat.{ℕ, zero, suc, ◌+◌, ◌≤◌, ◌<◌}
use mathlib.Core.Path.{◌≡◌, refl, sym, ◌∙◌, ap}
use mathlib.Core.Bool.{Bool, true, false, not}
use mathlib.Core.List.{List}
use native.Mathlib.Omega.{arith}
use lib.Dec.{eqb}
use lib.ListN.{length}
use lib.Seq.{ext_get_or}
use borrow.Author.Tests.{eqb-true, eqb-false, eq-eqb, not-false}
use Rattle.board.specs.declared.Shape.{Shape}
use Rattle.board.specs.First.{first_of}
use Rattle.board.specs.Shape.{cells, GoodShape}
use Rattle.board.specs.Board.{at, IsBoard, empty_cell, in_order, goal, is_goal}
use Rattle.board.proofs.theory.Sides.{cells-within}
use Rattle.board.proofs.theory.Firsts.{first_of_holds, first_of_fails, first_of_none}
use Rattle.board.proofs.theory.Onto.{Stands, onto}

-- ---- every number stands in a cell, and in one only

module _ (s : Shape) (b : List ℕ) (board : IsBoard s b) where
  pub stands : (v : ℕ) → v < cells s → Stands (cells s) (at b) v
  stands = onto (cells s) (at b) board.small board.once

  pub same-cell : (i j : ℕ) → i < cells s → j < cells s → at b i ≡ at b j → i ≡ j
  same-cell i j p q e =
      let not-below : ¬ (i < j) = λ l. board.once i j l q e in
      let not-above : ¬ (j < i) = λ l. board.once j i l p (sym e) in
      omega arith

-- ---- the empty cell

module _ (s : Shape) (b : List ℕ) (shape : GoodShape s) (board : IsBoard s b) where
  pub empty-inside : empty_cell b < cells s
  unfolding empty_cell
  empty-inside = omega (arith, place.1, not-past)
    where
      place : Stands (cells s) (at b) 0
      place = stands s b board 0 (omega (arith, cells-within shape))

      test : ℕ → Bool
      test i = eqb (at b i) 0

      not-past : ¬ (place.0 < first_of test 0 (length b))
      not-past l = eqb-false (at b place.0) 0 (first_of_fails test 0 (length b) place.0 (omega arith) l) place.2

  pub empty-holds_0 : at b (empty_cell b) ≡ 0
  unfolding empty_cell
  empty-holds_0 =
      eqb-true (at b (empty_cell b)) 0
      (first_of_holds (λ i. eqb (at b i) 0) 0 (length b) (omega (arith, empty-inside, board.long)))

  pub only_empty : (i : ℕ) → i < cells s → at b i ≡ 0 → i ≡ empty_cell b
  only_empty i h e = same-cell s b board i (empty_cell b) h empty-inside (e ∙ sym empty-holds_0)

-- ---- the goal

length-in_order : (i k : ℕ) → length (in_order i k) ≡ k
unfolding in_order
length-in_order i zero = refl
length-in_order i (suc k) = ap suc (length-in_order (suc i) k)

at-in_order : (i k j : ℕ) → j < k → at (in_order i k) j ≡ i + j
unfolding in_order
at-in_order i zero j h = absurd (omega arith)
at-in_order i (suc k) zero h = omega arith
at-in_order i (suc k) (suc j) h = omega (arith, at-in_order (suc i) k j (omega arith))

pub goal-length : (s : Shape) → length (goal s) ≡ cells s
unfolding goal
goal-length s = length-in_order 0 (cells s)

pub goal-at : (s : Shape) (i : ℕ) → i < cells s → at (goal s) i ≡ i
unfolding goal
goal-at s i h = omega (arith, at-in_order 0 (cells s) i h)

-- a list as long as the board is the goal where each cell holds its own number
pub goal-is : (s : Shape) (b : List ℕ) → length b ≡ cells s → ((i : ℕ) → i < cells s → at b i ≡ i) → b ≡ goal s
goal-is s b long own =
    ext_get_or 0 b (goal s) (long ∙ sym (goal-length s)) (λ i h. own i (omega arith) ∙ sym (goal-at s i (omega arith)))

pub is_goal-sound : (s : Shape) (b : List ℕ) → length b ≡ cells s → is_goal s b ≡ true → b ≡ goal s
unfolding is_goal
is_goal-sound s b long e = goal-is s b long own
  where
    test : ℕ → Bool
    test i = not (eqb (at b i) i)

    past : first_of test 0 (cells s) ≡ cells s
    past = eqb-true (first_of test 0 (cells s)) (cells s) e

    own : (i : ℕ) → i < cells s → at b i ≡ i
    own i h =
        eqb-true (at b i) i (not-false (eqb (at b i) i) (first_of_fails test 0 (cells s) i (omega arith) (omega (arith, past))))

pub is_goal-complete : (s : Shape) (b : List ℕ) → b ≡ goal s → is_goal s b ≡ true
unfolding is_goal
is_goal-complete s b e = eq-eqb (first_of test 0 (cells s)) (cells s) (first_of_none test 0 (cells s) own ∙ omega arith)
  where
    test : ℕ → Bool
    test i = not (eqb (at b i) i)

    own : (i : ℕ) → 0 ≤ i → i < 0 + cells s → test i ≡ false
    own i l h = ap not (eq-eqb (at b i) i (rw e (goal-at s i (omega arith))))

pub goal-is-board : (s : Shape) → IsBoard s (goal s)
goal-is-board s = record {
  long = goal-length s;
  small = λ i h. omega (arith, goal-at s i h);
  once = λ i j l h e. omega (arith, goal-at s i (omega arith), goal-at s j h);
}

pub goal-empty : (s : Shape) → GoodShape s → empty_cell (goal s) ≡ 0
goal-empty s shape =
    let some-cell : 0 < cells s = omega (arith, cells-within shape) in
    sym (only_empty s (goal s) shape (goal-is-board s) 0 some-cell (goal-at s 0 some-cell))
