-- The cabinet's shape: how many cells it has, row by row from the top left, and which shapes are taken (2 to 4 by 2 to 4).
-- Assumes nothing.
use Rattle.std.specs.Prelude.{ℕ, ◌*◌, ◌/◌, ◌%◌, Bool, ◌||◌, ltb}
use Rattle.board.specs.declared.Shape.{Shape}

-- n, the number of cells
abbrev pub cells : Shape → ℕ
cells s = s.width * s.height

-- the row and the column of a cell, from 0
abbrev pub row : Shape → ℕ → ℕ
row s i = i / s.width

abbrev pub column : Shape → ℕ → ℕ
column s i = i % s.width

-- a width or a height that is taken
pub data Side : ℕ → Type 0 where
  two : Side 2
  three : Side 3
  four : Side 4

pub record GoodShape (s : Shape) : Type 0 where
  pub wide : Side s.width
  pub high : Side s.height

-- test 1, of one of the two numbers
abbrev pub bad_side : ℕ → Bool
bad_side k = ltb k 2 || ltb 4 k
