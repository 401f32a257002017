-- `put::put_bytes` meets its contract: with each byte one more is put. Assumes nothing.
use Rattle.records.proofs.code.Storing.{put_next}
use Rattle.records.proofs.put.put_bytes.Goals as goal

pub loop-i-preserved : goal.loop-i-preserved
loop-i-preserved c =
    put_next _ _ _ _ _ c.loop-i-test.true c.loop-i.invariant
