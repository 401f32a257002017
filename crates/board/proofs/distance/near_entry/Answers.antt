-- `board::distance::near_entry` meets its contract: the empty cell is no tray, and for a tray the table has rows plus columns of the two
-- cells. Assumes nothing.
use Prim.Native.Nat.{ℕ, ◌+◌, ◌*◌, ◌<◌}
use mathlib.Core.Path.{◌≡◌, sym, ap, ◌∙◌}
use mathlib.Core.List.{List}
use lib.ListN.{get_or}
use Rattle.board.specs.declared.Shape.{Shape}
use Rattle.board.specs.Shape.{cells, GoodShape}
use Rattle.board.specs.Distance.{tray_distance, four_wide, DistanceTable}
use Rattle.board.proofs.theory.Distances.{four-wide-inside, between-four, tray-between}
use Rattle.board.proofs.distance.near_entry.Goals as goal

no-tray : (s : Shape) (i v : ℕ) → v ≡ 0 → 0 ≡ tray_distance s i v
unfolding tray_distance
no-tray s i v e = sym (ap (tray_distance s i) e)

entry-is :
    (s : Shape) (table : List ℕ) (i v a c : ℕ)
    → GoodShape s
    → DistanceTable table
    → (v ≡ 0 → ⊥)
    → i < cells s
    → v < cells s
    → a ≡ four_wide s i
    → c ≡ four_wide s v
    → get_or table (16 * a + c) 0 ≡ tray_distance s i v
entry-is s table i v a c good t tray cell value at-cell at_value =
    ap (λ (x : ℕ). get_or table (16 * x + c) 0) at-cell
    ∙ ap (λ (y : ℕ). get_or table (16 * four_wide s i + y) 0) at_value
    ∙ t.entry (four_wide s i) (four_wide s v) (four-wide-inside s good i cell) (four-wide-inside s good v value)
    ∙ sym (between-four s good i v)
    ∙ sym (tray-between s i v tray)

pub returns-then-v-eq0 : goal.returns-then-v-eq0
returns-then-v-eq0 c =
    no-tray _ _ _ c.if-v-eq0.true

pub returns : goal.returns
returns c =
    let pre = c.requires in
    entry-is _ _ _ _ _ _ pre.good_shape pre.distance_table c.if-v-eq0.false pre.i_bound.0 pre.i_bound.1 c.four_wide.ensures
    c.four_wide-2.ensures
