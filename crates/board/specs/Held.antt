-- How a board is held in a struct: in one number, four bits a cell, cell 0 the lowest; the empty cell stands beside it. Then
-- what a slide asks of a position, and what it makes of it. Assumes nothing.
use Rattle.std.specs.Prelude.{ℕ, ◌+◌, ◌*◌, ◌^◌, ◌<◌, ◌≡◌, List}
use Rattle.board.specs.declared.Shape.{Shape}
use Rattle.board.specs.declared.Position.{Position}
use Rattle.board.specs.Shape.{cells, GoodShape}
use Rattle.board.specs.Board.{IsBoard, empty_cell}
use Rattle.board.specs.Digits.{digits, digit}

-- the board that a position holds
abbrev pub held : Shape → Position → List ℕ
held s p = digits (cells s) p.cells

-- a position that holds a board of the shape; above its cells there is nothing
pub record Holds (s : Shape) (p : Position) : Type 0 where
  pub shape : GoodShape s
  pub board : IsBoard s (held s p)
  pub empty : p.empty ≡ empty_cell (held s p)
  pub rest : p.cells < 16 ^ cells s

-- a position that was made to hold the board b
pub record Taken (s : Shape) (b : List ℕ) (p : Position) : Type 0 where
  pub same : held s p ≡ b
  pub holds : Holds s p

-- a slide from cell t: with its tray in the empty cell too, the number still fits 64 bits
pub record Slides (p : Position) (t : ℕ) : Type 0 where
  pub target : t < 16
  pub empty : p.empty < 16
  pub room : p.cells + digit p.cells t * 16 ^ p.empty < 18446744073709551616

-- the tray of cell t is taken out at its place and put in at the empty cell's, and cell t is empty
pub record Slid (p : Position) (t : ℕ) (r : Position) : Type 0 where
  pub cells : r.cells + digit p.cells t * 16 ^ t ≡ p.cells + digit p.cells t * 16 ^ p.empty
  pub empty : r.empty ≡ t
