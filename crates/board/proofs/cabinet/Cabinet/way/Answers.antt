-- `board::cabinet::Cabinet::way` meets its contract: it is the table's entry for the cell and the two moves. Assumes nothing.
use mathlib.Core.Path.{◌∙◌}
use Rattle.board.proofs.theory.Changes.{way_looked_up}
use Rattle.board.proofs.cabinet.Cabinet.way.Goals as goal

pub returns : goal.returns
returns c =
    let pre = c.requires in
    c.from.ensures ∙ way_looked_up _ _ _ _ _ c.args.self.now.good c.args.self.now.table pre.e_bound pre.last_bound.0 pre.last_bound.1
