-- `lowpengine::lowpengine_read_record` meets its contract: the record reader's answer, packed, and its output. Assumes nothing.
use mathlib.Core.Path.{sym, ap, ◌∙◌}
use Rattle.lowpengine.specs.Packed.{packed_reading}
use Rattle.lowpengine.proofs.theory.Narrowed.{reads_narrow}
use Rattle.lowpengine.proofs.lowpengine_read_record.Goals as goal

pub packed_reading-requires : goal.packed_reading-requires
packed_reading-requires c =
    λ n e. reads_narrow _ _ n (sym c.read-answer.ensures.answers ∙ e)

pub returns : goal.returns
returns c =
    let read = c.read-answer.ensures in
    record { result = c.packed_reading.ensures ∙ ap packed_reading read.answers; out = read.leaves }
