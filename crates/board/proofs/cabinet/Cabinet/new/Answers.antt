-- `board::cabinet::Cabinet::new` meets its contract: the table is the shape's. Assumes nothing.
use Rattle.board.proofs.cabinet.Cabinet.new.Goals as goal

pub invariant_of-result : goal.invariant_of-result
invariant_of-result c =
    record { good = c.requires; table = c.near_table.ensures }
