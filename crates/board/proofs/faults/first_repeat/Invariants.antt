-- What the loop of `board::faults::first_repeat` keeps. Assumes nothing.
use Rattle.std.proofs.Common.{length}
use Rattle.board.specs.Faults.{repeats}
use Rattle.board.proofs.code.FirstLoop.{Looking}
use Rattle.board.proofs.faults.first_repeat.Given as goal

abbrev pub invariant-loop-cell : goal.invariant-loop-cell
invariant-loop-cell l =
    Looking (repeats l.board) (length l.board) l.cell
