-- `Line::opening` meets its contract: the word, and then the two numbers, each behind a space.
-- Assumes nothing.
use Rattle.jobline.proofs.code.Puts.{room-front, room-behind, wrote_then}
use Rattle.jobline.proofs.write.Line.opening.Goals as goal

pub field-requires : goal.field-requires
field-requires c =
    room-behind _ _ c.word.ensures (room-front _ _ _ _ c.requires)

pub field-requires-2 : goal.field-requires-2
field-requires-2 c =
    room-behind _ _ (wrote_then c.word.ensures c.field.ensures) c.requires

pub returns : goal.returns
returns c =
    wrote_then (wrote_then c.word.ensures c.field.ensures) c.field-2.ensures
