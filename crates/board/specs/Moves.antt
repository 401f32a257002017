-- The four moves. A move carries the empty cell one place: 0 up, 1 left, 2 right, 3 down. It is legal if the empty cell stays
-- on the grid; the tray there goes to where the empty cell was. Assumes nothing.
use Rattle.std.specs.Prelude.{ℕ, zero, suc, ◌+◌, ◌-◌, Bool, false, List, ltb, set}
use Rattle.board.specs.declared.Shape.{Shape}
use Rattle.board.specs.Shape.{row, column}
use Rattle.board.specs.Board.{at, empty_cell}

-- the move from cell e stays on the grid; a number above 3 is no move
unfoldable pub stays_on : Shape → ℕ → ℕ → Bool
stays_on s e zero = ltb 0 (row s e)
stays_on s e (suc zero) = ltb 0 (column s e)
stays_on s e (suc (suc zero)) = ltb (column s e + 1) s.width
stays_on s e (suc (suc (suc zero))) = ltb (row s e + 1) s.height
stays_on s e (suc (suc (suc (suc m)))) = false

-- the cell that the move leads to from cell e, where it stays on the grid
unfoldable pub leads_to : Shape → ℕ → ℕ → ℕ
leads_to s e zero = e - s.width
leads_to s e (suc zero) = e - 1
leads_to s e (suc (suc zero)) = e + 1
leads_to s e (suc (suc (suc m))) = e + s.width

unfoldable pub legal : Shape → List ℕ → ℕ → Bool
legal s b m = stays_on s (empty_cell b) m

-- the board with the tray of cell t in the empty cell e, and cell t empty
unfoldable pub slide : List ℕ → ℕ → ℕ → List ℕ
slide b e t = set (set b e (at b t)) t 0

-- the board after a move
unfoldable pub after : Shape → List ℕ → ℕ → List ℕ
after s b m = slide b (empty_cell b) (leads_to s (empty_cell b) m)
