-- `board::faults::tested` meets its contract: test 1 of each side, and then what `tested_cells` says. Assumes nothing.
use mathlib.Core.Path.{◌∙◌, sym}
use Rattle.board.specs.Tests.{first_refusal}
use Rattle.board.specs.Faults.{fault_tests, said_of, tested}
use Rattle.board.proofs.theory.Sides.{passing_side}
use Rattle.board.proofs.faults.tested.Goals.{then-bad_side-via-then-bad_side, then-bad_side-via-else-bad_side+then-bad_side-2}
use Rattle.board.proofs.faults.tested.Goals as goal

pub returns-then-bad_side : goal.returns-then-bad_side
unfolding tested fault_tests said_of first_refusal
returns-then-bad_side c =
    elim c.then-bad_side.branch [
      | then-bad_side-via-then-bad_side w ↦ simp (← c.bad_side.ensures, w.if-bad_side.true)
      | then-bad_side-via-else-bad_side+then-bad_side-2 w ↦
          simp (← c.bad_side.ensures, w.if-bad_side.false, ← w.bad_side-else-bad_side.ensures, w.if-bad_side-2.true)
    ]

pub tested_cells-requires : goal.tested_cells-requires
tested_cells-requires c =
    record {
      wide = passing_side _ (sym c.bad_side.ensures ∙ c.if-bad_side.false);
      high = passing_side _ (sym c.bad_side-else-bad_side.ensures ∙ c.if-bad_side-2.false);
    }
