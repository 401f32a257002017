-- `board::parity::is_odd` meets its contract: the exchanges have the parity of the board's inversions (Orders). Assumes nothing.
use Prim.Native.Nat.{ℕ, ◌+◌, ◌/◌, ◌%◌, ◌<◌}
use mathlib.Core.Path.{◌≡◌, ap}
use native.Mathlib.Omega.{arith}
use lib.Dec.{eqb}
use Rattle.board.specs.declared.Shape.{Shape}
use Rattle.board.specs.declared.Position.{Position}
use Rattle.board.specs.Parity.{inversions, parity_sum, is_odd}
use Rattle.board.specs.Order.{FewExchanges}
use Rattle.board.specs.Held.{held, Holds}
use Rattle.board.proofs.theory.Sides.{side_within, cells-within, cell_row, cell-column}
use Rattle.board.proofs.theory.Orders.{ordered-parity}
use Rattle.board.proofs.code.Holding.{empty-below}
use Rattle.board.proofs.parity.is_odd.Goals as goal

-- the same parity, the same answer
same_answer : (k j row column : ℕ) → k % 2 ≡ j % 2 → eqb ((k + row + column) % 2) 1 ≡ eqb ((j + row + column) % 2) 1
same_answer k j row column e =
    let same : (k + row + column) % 2 ≡ (j + row + column) % 2 = omega arith in
    ap (λ (r : ℕ). eqb r 1) same

module _ (s : Shape) (p : Position) (k : ℕ) (holds : Holds s p) (few : FewExchanges (held s p) k) where
  answered : eqb ((k + p.empty / s.width + p.empty % s.width) % 2) 1 ≡ is_odd s (held s p)
  unfolding is_odd parity_sum
  answered =
      rw (← holds.empty)
      (same_answer k (inversions (held s p)) (p.empty / s.width) (p.empty % s.width)
      (ordered-parity s (held s p) k holds.board few.ordered))

  -- what bounds the sum: fewer exchanges than cells, and the empty cell's row and column
  record SumRoom : Type 0 where
    few-exchanges : k < 16
    row_below : p.empty / s.width < 4
    column-below : p.empty % s.width < 4

  sum_room : SumRoom
  sum_room = record {
    few-exchanges = omega (arith, few.most, holds.board.long, cells-within holds.shape);
    row_below = omega (arith, cell_row holds.shape p.empty (empty-below s p holds), side_within holds.shape.high);
    column-below = omega (arith, cell-column holds.shape p.empty, side_within holds.shape.wide);
  }

pub row_and_column-row-requires-clause-i_bound : goal.row_and_column-row-requires-clause-i_bound
row_and_column-row-requires-clause-i_bound c =
    empty-below _ _ c.requires

pub overflow_add-result : goal.overflow_add-result
overflow_add-result c =
    omega (arith, sum_room _ _ _ c.requires c.exchanges-count.ensures, c.row_and_column-row.ensures)

pub overflow_add-result-2 : goal.overflow_add-result-2
overflow_add-result-2 c =
    omega (arith, sum_room _ _ _ c.requires c.exchanges-count.ensures, c.row_and_column-row.ensures)

pub returns : goal.returns
returns c =
    rw (c.row_and_column-row.ensures.row, c.row_and_column-row.ensures.column) (answered _ _ _ c.requires c.exchanges-count.ensures)
