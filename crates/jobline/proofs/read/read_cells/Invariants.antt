-- What the loop of `jobline::read::read_cells` keeps. Assumes nothing.
use Rattle.jobline.proofs.code.Taken.{Taken}
use Rattle.jobline.proofs.read.read_cells.Given as goal

abbrev pub invariant-loop-count : goal.invariant-loop-count
invariant-loop-count l = Taken l.text l.initial.cells l.cells l.rest l.count
