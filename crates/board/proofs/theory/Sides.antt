-- What a side that is taken tells: test 1 fails of exactly the sides 2, 3 and 4, and a good shape has 4 to 16 cells.
-- Assumes nothing.
use Prim.Native.Nat.{ℕ, zero, suc, ◌*◌, ◌/◌, ◌%◌, ◌≤◌, ◌<◌}
use mathlib.Core.Path.{◌≡◌, refl, sym, ◌∙◌}
use mathlib.Core.Bool.{Bool, true, false, ◌||◌, or-true, false≢true}
use native.Mathlib.Nat.{mul-le-mul}
use native.Mathlib.Omega.{arith}
use borrow.Author.Tests.{lt-ltb}
use Rattle.board.specs.declared.Shape.{Shape}
use Rattle.board.specs.Shape.{cells, row, column, Side, two, three, four, GoodShape, bad_side}

pub side_passes : {k : ℕ} → Side k → bad_side k ≡ false
side_passes two = refl
side_passes three = refl
side_passes four = refl

-- neither test holds
pub neither : (t u : Bool) → t || u ≡ false → (t ≡ false) × (u ≡ false)
neither true u e = absurd (false≢true (sym e))
neither false u e = (refl, e)

pub passing_side : (k : ℕ) → bad_side k ≡ false → Side k
passing_side zero e = absurd (false≢true (sym e))
passing_side (suc zero) e = absurd (false≢true (sym e))
passing_side (suc (suc zero)) e = two
passing_side (suc (suc (suc zero))) e = three
passing_side (suc (suc (suc (suc zero)))) e = four
passing_side (suc (suc (suc (suc (suc k))))) e = absurd (false≢true (sym e ∙ above))
  where
    above : bad_side (suc (suc (suc (suc (suc k))))) ≡ true
    above = simp (lt-ltb 4 (suc (suc (suc (suc (suc k))))) (omega arith), or-true)

pub record Within (low k high : ℕ) : Type 0 where
  pub least : low ≤ k
  pub most : k ≤ high

pub side_within : {k : ℕ} → Side k → Within 2 k 4
side_within two = omega arith
side_within three = omega arith
side_within four = omega arith

pub cells-within : {s : Shape} → GoodShape s → Within 4 (cells s) 16
cells-within g =
    let w = side_within g.wide in
    let h = side_within g.high in
    record { least = mul-le-mul w.least h.least; most = mul-le-mul w.most h.most }

-- a cell's column is below the width, and its row below the height
pub cell-column : {s : Shape} → GoodShape s → (i : ℕ) → column s i < s.width
cell-column g i = columns g.wide
  where
    columns : {w : ℕ} → Side w → i % w < w
    columns two = omega arith
    columns three = omega arith
    columns four = omega arith

pub cell_row : {s : Shape} → GoodShape s → (i : ℕ) → i < cells s → row s i < s.height
cell_row g i = rows g.wide g.high
  where
    rows : {w h : ℕ} → Side w → Side h → i < w * h → i / w < h
    rows two high = λ below. omega arith
    rows three high = λ below. omega arith
    rows four high = λ below. omega arith
