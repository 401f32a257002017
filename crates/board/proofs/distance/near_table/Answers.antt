-- `board::distance::near_table` meets its contract: the cells below e are put. Assumes nothing.
use native.Mathlib.Omega.{arith}
use Rattle.board.proofs.code.Filling.{none_filled, one_filled, all_filled}
use Rattle.board.proofs.distance.near_table.Goals as goal

pub loop-e-init : goal.loop-e-init
loop-e-init c =
    none_filled _

pub loop-e-preserved : goal.loop-e-preserved
loop-e-preserved c =
    one_filled _ _ _ c.loop-e.invariant c.requires
    (omega (arith, c.loop-e-test.true, c.cell_count-e-end.ensures)) _ _ c.put_near.ensures c.put_ways.ensures

pub returns : goal.returns
returns c =
    all_filled _ _ _ c.loop-e.invariant (omega (arith, c.loop-e-test.false, c.cell_count-e-end.ensures))
