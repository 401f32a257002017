-- `board::cabinet::Cabinet::go` meets its contract: a change leads on to a distance. Assumes nothing.
use Rattle.board.proofs.theory.Keeping.{leads_on}
use Rattle.board.proofs.cabinet.Cabinet.go.Goals as goal

pub changed-h-requires : goal.changed-h-requires
changed-h-requires c = leads_on _ _ _ c.requires.kept _ _ c.after-moved.ensures
