-- `search::Ground::from_start` meets its contract: it is the visit to the start with F = f and an infinite bound, and with the start's own
-- sum as its distance. Assumes nothing.
use native.Mathlib.Omega.{arith}
use Rattle.board.proofs.Laws.{kept-most}
use Rattle.search.specs.Ground.{job_of}
use Rattle.search.proofs.code.BoardSpace.{valued}
use Rattle.search.proofs.code.Outcomes.{ran-told}
use Rattle.search.proofs.code.Whole.{started}
use Rattle.search.proofs.Ground.from_start.Goals as goal

pub value-f-requires : goal.value-f-requires
value-f-requires c =
    (omega (arith, kept-most _ _ _ (record { holds = c.requires.holds; full = c.distance-h.ensures })), omega arith)

pub returns : goal.returns
returns c =
    let ran = ran-told c.of_search.ensures c.visit-end.ensures in
    let f = valued _ _ _ _ _ _ c.distance-h.ensures c.value-f.ensures in
    started (job_of c.args.self.now) _ _ _ _ _ _ _ _ f ran
