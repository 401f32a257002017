-- What the loop of `board::distance::put_ways` keeps. Assumes nothing.
use Prim.Native.Nat.{◌+◌, ◌*◌}
use Rattle.board.specs.Distance.{way_at, RunPut}
use Rattle.board.proofs.distance.put_ways.Given as goal

abbrev pub invariant-loop-k : goal.invariant-loop-k
invariant-loop-k l =
    RunPut (way_at l.shape l.e) (64 * l.e + 16) l.k l.initial.near l.near
