-- `scan::length_at` meets its contract: the closure is the test. Assumes nothing.
use lib.Dec.{ltb}
use Rattle.std.proofs.Common.{rules}
use Rattle.records.specs.Scan.{length_at}
use Rattle.records.proofs.theory.Scanning.{but_by}
use Rattle.records.proofs.scan.length_at.Goals as goal

pub returns : goal.returns
unfolding length_at
returns c =
    but_by (ltb 120) _ _ (λ v t k. search rules) _ _ c.number_but.ensures
