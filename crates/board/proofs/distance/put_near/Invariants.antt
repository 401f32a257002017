-- What the loop of `board::distance::put_near` keeps. Assumes nothing.
use Prim.Native.Nat.{◌*◌}
use Rattle.board.specs.Distance.{tray_distance, RunPut}
use Rattle.board.proofs.distance.put_near.Given as goal

abbrev pub invariant-loop-v : goal.invariant-loop-v
invariant-loop-v l =
    RunPut (tray_distance l.shape l.e) (64 * l.e) l.v l.initial.near l.near
