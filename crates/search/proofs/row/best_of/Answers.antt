-- `search::row::best_of` meets its contract: the three comparisons are the definition's. Assumes nothing.
use Rattle.search.specs.Row.{best_of}
use Rattle.search.proofs.code.Picking.{best-row}
use Rattle.search.proofs.row.best_of.Goals as goal

pub returns : goal.returns
unfolding best_of
returns c =
    simp (
      c.better.ensures,
      c.better-abc.ensures,
      c.better-ab.ensures,
      c.choice-4.ensures,
      c.choice-3.ensures,
      c.choice-2.ensures,
      c.choice.ensures,
    )
    (best-row _ c.requires)
