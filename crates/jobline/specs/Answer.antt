-- The line that a text is answered with: 12 for a text that is not of the grammar; else the line of the planner's whole answer for the job,
-- with 120 move bytes and 484 table numbers, all 0 at first. Assumes nothing.
use Rattle.std.specs.Prelude.{ℕ, List, take, replicate, Option, None, Some}
use Rattle.planner.specs.Answer.{Answer}
use Rattle.std.specs.Prelude.{Ok, Err}
use Rattle.planner.specs.Answer.{Call, Left, called, answered, refusal_number, refusal_cell, refusal_visits}
use Rattle.jobline.specs.Grammar.{Job}
use Rattle.jobline.specs.Line.{plan_line, refused_line}

-- the line of an answer, with the move buffer as it was left
unfoldable pub line_of : Answer → List ℕ → List ℕ
line_of (Ok pl) moves = plan_line pl.visits (take pl.length moves)
line_of (Err r) moves = refused_line (refusal_number r) (refusal_cell r) (refusal_visits r)

abbrev pub left_line : Left → List ℕ
left_line l = line_of l.answer l.moves

-- the call that a job makes
abbrev pub call_for : Job → Call
call_for job =
    let n = job.numbers in
    called n.width n.height job.cells n.ceiling n.budget n.p n.q (replicate 120 0) (replicate 484 0)

unfoldable pub answer_to : Option Job → List ℕ
answer_to None = refused_line 12 0 0
answer_to (Some job) = left_line (answered (call_for job))
