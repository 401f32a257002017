-- Test 9: inversions of the whole board, 0 counted as a value, plus row and column of the empty cell, make an odd sum.
-- Assumes nothing.
use Rattle.std.specs.Prelude.{ℕ, ◌+◌, ◌%◌, Bool, cond, List, [], ◌∷◌, ltb, eqb}
use Rattle.board.specs.declared.Shape.{Shape}
use Rattle.board.specs.Shape.{row, column}
use Rattle.board.specs.Board.{empty_cell}

-- how many of the values are below x
unfoldable pub lower : ℕ → List ℕ → ℕ
lower x [] = 0
lower x (y ∷ ys) = cond (ltb y x) 1 0 + lower x ys

-- pairs of cells of which the later holds the lower value
unfoldable pub inversions : List ℕ → ℕ
inversions [] = 0
inversions (x ∷ xs) = lower x xs + inversions xs

unfoldable pub parity_sum : Shape → List ℕ → ℕ
parity_sum s b = inversions b + row s (empty_cell b) + column s (empty_cell b)

unfoldable pub is_odd : Shape → List ℕ → Bool
is_odd s b = eqb (parity_sum s b % 2) 1
