-- `board::distance::first_ways` meets its contract: a way leads to a cell, which a byte holds, and each stands at its move.
-- Assumes nothing.
use native.Mathlib.Omega.{arith}
use Rattle.board.proofs.theory.Sides.{cells-within}
use Rattle.board.proofs.theory.Ways.{way-inside}
use Rattle.board.proofs.distance.first_ways.Goals as goal

pub overflow_cast-result : goal.overflow_cast-result
overflow_cast-result c =
    let good = c.requires.good_shape in
    record { fits = omega (arith, c.way_entry.ensures, way-inside _ c.args.e 4 0 good c.requires.e_bound, cells-within good) }

pub overflow_cast-result-2 : goal.overflow_cast-result-2
overflow_cast-result-2 c =
    let good = c.requires.good_shape in
    record { fits = omega (arith, c.way_entry-2.ensures, way-inside _ c.args.e 4 1 good c.requires.e_bound, cells-within good) }

pub overflow_cast-result-3 : goal.overflow_cast-result-3
overflow_cast-result-3 c =
    let good = c.requires.good_shape in
    record { fits = omega (arith, c.way_entry-3.ensures, way-inside _ c.args.e 4 2 good c.requires.e_bound, cells-within good) }

pub overflow_cast-result-4 : goal.overflow_cast-result-4
overflow_cast-result-4 c =
    let good = c.requires.good_shape in
    record { fits = omega (arith, c.way_entry-4.ensures, way-inside _ c.args.e 4 3 good c.requires.e_bound, cells-within good) }
