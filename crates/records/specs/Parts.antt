-- The bytes of a record's parts. Assumes nothing.
use Rattle.std.specs.Prelude.{ℕ, List}
use Rattle.records.specs.declared.put.Parts.{Parts}
use Rattle.records.specs.Record.{pieces}

-- all before the mark
abbrev pub body_of : Parts → List ℕ
body_of parts = pieces parts.shape parts.board.now parts.plan parts.moves.now
