-- `scan::side_at` meets its contract: the closure is the test. Assumes nothing.
use Rattle.board.specs.Shape.{bad_side}
use Rattle.std.proofs.Common.{rules}
use Rattle.records.specs.Scan.{side_at}
use Rattle.records.proofs.theory.Scanning.{but_by}
use Rattle.records.proofs.scan.side_at.Goals as goal

pub returns : goal.returns
unfolding side_at
returns c =
    but_by bad_side _ _ (λ v t k. search rules) _ _ c.number_but.ensures
