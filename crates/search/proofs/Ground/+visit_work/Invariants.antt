-- What ends the cycle {visit, work}: a visit calls the work at its own depth g, and the work calls visits one deeper, so the measures are
-- 2 * (ceiling - g) + 1 and 2 * (ceiling - g). The loop's measure is the visits left, since each visit counts itself. Assumes nothing.
use Rattle.std.proofs.Common.{◌+◌, ◌*◌, ◌-◌}
use Rattle.board.specs.Held.{held}
use Rattle.search.specs.Ground.{job_of}
use Rattle.search.proofs.code.Working.{Working}
use Rattle.search.proofs.Ground.+visit_work.Given as goal

abbrev pub decreases-visit : goal.decreases-visit
decreases-visit l = 2 * (l.self.now.ceiling - l.g) + 1

abbrev pub decreases-work : goal.decreases-work
decreases-work l = 2 * (l.self.now.ceiling - l.g)

abbrev pub invariant-work-loop-moves : goal.invariant-work-loop-moves
invariant-work-loop-moves l =
    Working (job_of l.self) (held l.self.cabinet.shape l.at.position) l.g l.bound l.initial.table l.initial.moves l.initial.left
    l.table l.moves l.left l.least

abbrev pub decreases-work-loop-moves : goal.decreases-work-loop-moves
decreases-work-loop-moves l = l.left
