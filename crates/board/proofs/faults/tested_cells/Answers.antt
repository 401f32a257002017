-- `board::faults::tested_cells` meets its contract: each way out has the tests that it passed. Assumes nothing.
use Rattle.std.proofs.Common.{◌∙◌, sym}
use borrow.Author.Tests.{eq-eqb, ne_eqb}
use Rattle.board.specs.Tests.{first_refusal}
use Rattle.board.specs.Faults.{fault_tests, said_of, tested}
use Rattle.board.proofs.theory.Sides.{side_passes}
use Rattle.board.proofs.theory.Firsts.{found_is, none-found}
use Rattle.board.proofs.faults.tested_cells.Goals as goal

pub returns-then-board-width : goal.returns-then-board-width
unfolding tested fault_tests said_of first_refusal
returns-then-board-width c =
    let good = c.requires in
    simp (side_passes good.wide, side_passes good.high, ne_eqb _ _ c.if-board-width.true)

pub returns-in-Some : goal.returns-in-Some
unfolding tested fault_tests said_of first_refusal
returns-in-Some c =
    let good = c.requires in
    let long = c.if-board-width.false in
    let large = found_is _ _ _ (rw long at (sym c.first_too_large.ensures ∙ c.in-Some.is)) in
    simp (side_passes good.wide, side_passes good.high, eq-eqb _ _ long, large.0, large.1)

pub returns-in-Some-first_repeat : goal.returns-in-Some-first_repeat
unfolding tested fault_tests said_of first_refusal
returns-in-Some-first_repeat c =
    let good = c.requires in
    let long = c.if-board-width.false in
    let small = none-found _ _ (rw long at (sym c.first_too_large.ensures ∙ c.in_default.is)) in
    let repeat = found_is _ _ _ (rw long at (sym c.first_repeat.ensures ∙ c.in-Some-first_repeat.is)) in
    simp (side_passes good.wide, side_passes good.high, eq-eqb _ _ long, small, repeat.0, repeat.1)

pub returns : goal.returns
unfolding tested fault_tests said_of first_refusal
returns c =
    let good = c.requires in
    let long = c.if-board-width.false in
    let small = none-found _ _ (rw long at (sym c.first_too_large.ensures ∙ c.in_default.is)) in
    let once = none-found _ _ (rw long at (sym c.first_repeat.ensures ∙ c.in_default-first_repeat.is)) in
    simp (side_passes good.wide, side_passes good.high, eq-eqb _ _ long, small, once)
