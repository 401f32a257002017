-- `board::cabinet::Cabinet::change_to` meets its contract: the table's two entries for the tray that slides tell the change.
-- Assumes nothing.
use mathlib.Core.Path.{◌∙◌}
use Rattle.board.specs.Held.{held}
use Rattle.board.proofs.theory.Changes.{read_as, to-one_step}
use Rattle.board.proofs.code.Sliding.{entries_tell}
use Rattle.board.proofs.cabinet.Cabinet.change_to.Goals as goal

pub returns : goal.returns
returns c =
    let pre = c.requires in
    let a = c.args in
    let tell = entries_tell _ _ pre.holds _ _ pre.t_bound c.number_at-tray.ensures _ c.args.self.now.table in
    read_as (c.change_of.ensures ∙ tell) (to-one_step a.self.now.shape (held a.self.now.shape a.p) a.t)
