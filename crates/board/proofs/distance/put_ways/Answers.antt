-- `board::distance::put_ways` meets its contract: the ways below k are put. Assumes nothing.
use native.Mathlib.Omega.{arith}
use Rattle.board.proofs.theory.Sides.{cells-within}
use Rattle.board.proofs.code.Filling.{one-put}
use Rattle.board.proofs.distance.put_ways.Goals as goal

pub loop-k-preserved : goal.loop-k-preserved
loop-k-preserved c =
    let inv = c.loop-k.invariant in
    let pre = c.requires in
    let few = cells-within pre.good_shape in
    one-put _ _ _ _ _ _ inv (omega (arith, c.loop-k-test.true, pre.e_bound, few, inv.long, pre.near_len)) c.way_of.ensures

pub overflow_add-near-in-loop-k : goal.overflow_add-near-in-loop-k
overflow_add-near-in-loop-k c =
    record { fits = omega (arith, c.loop-k-test.true, c.requires.e_bound, cells-within c.requires.good_shape) }

pub bounds-near-e : goal.bounds-near-e
bounds-near-e c =
    let inv = c.loop-k.invariant in
    omega (arith, c.loop-k-test.true, c.requires.e_bound, cells-within c.requires.good_shape, inv.long, c.requires.near_len)
