-- `board::distance::put_near` meets its contract: what the trays below v add is put. Assumes nothing.
use native.Mathlib.Omega.{arith}
use Rattle.board.proofs.theory.Sides.{cells-within}
use Rattle.board.proofs.code.Filling.{one-put}
use Rattle.board.proofs.distance.put_near.Goals as goal

pub loop-v-preserved : goal.loop-v-preserved
loop-v-preserved c =
    let inv = c.loop-v.invariant in
    let pre = c.requires in
    let few = cells-within pre.good_shape in
    one-put _ _ _ _ _ _ inv (omega (arith, c.loop-v-test.true, c.cell_count-v-end.ensures, pre.e_bound, few, inv.long, pre.near_len))
    c.near_entry.ensures
