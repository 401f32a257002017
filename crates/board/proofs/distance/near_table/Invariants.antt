-- What the loop of `board::distance::near_table` keeps. Assumes nothing.
use Rattle.board.proofs.code.Filling.{Filled}
use Rattle.board.proofs.distance.near_table.Given as goal

abbrev pub invariant-loop-e : goal.invariant-loop-e
invariant-loop-e l =
    Filled l.shape l.near l.e
