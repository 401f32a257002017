-- `board::moves::way_entry` meets its contract: its test is that of the definition. Assumes nothing.
use mathlib.Core.Path.{sym, ◌∙◌}
use borrow.Author.Tests.{eq-eqb, ne_eqb}
use Rattle.board.proofs.theory.Ways.{way_on, way_off, way_back}
use Rattle.board.proofs.moves.way_entry.Goals.{else-stays_on-via-then-stays_on+else-last-m-ne3, else-stays_on-via-else-stays_on}
use Rattle.board.proofs.moves.way_entry.Goals as goal

pub returns-then-last-m-ne3 : goal.returns-then-last-m-ne3
returns-then-last-m-ne3 c =
    c.leads_to.ensures
    ∙ sym (way_on _ _ _ _ (sym c.stays_on.ensures ∙ c.if-stays_on.true) (ne_eqb _ _ c.if-last-m-ne3.true))

pub returns-else-stays_on : goal.returns-else-stays_on
returns-else-stays_on c =
    elim c.else-stays_on.branch [
      | else-stays_on-via-then-stays_on+else-last-m-ne3 w ↦ sym (way_back _ _ _ _ (eq-eqb _ _ w.if-last-m-ne3.false))
      | else-stays_on-via-else-stays_on w ↦ sym (way_off _ _ _ _ (sym c.stays_on.ensures ∙ w.if-stays_on.false))
    ]
