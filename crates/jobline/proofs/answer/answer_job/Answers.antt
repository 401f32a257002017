-- `answer::answer_job` meets its contract: the planner's answer for the job's call, and its line.
-- Assumes nothing.
use borrow.Author.Rules.{rules}
use mir.Syntax.{w32}
use mir.Val.{SFits}
use mir.ValLaws.{to_z-of_z}
use Rattle.jobline.specs.Grammar.{job_of}
use Rattle.jobline.proofs.code.Answering.{small-enough, job-line}
use Rattle.jobline.proofs.answer.answer_job.Goals as goal

pub write_answer-requires : goal.write_answer-requires
write_answer-requires c =
    small-enough _ _ _ _ c.plan-answer.ensures c.plan-answer.auto.moves

pub returns : goal.returns
returns c =
    let a = c.args in
    -- the ceiling was handed on as the same number
    let fits : SFits w32 a.numbers.ceiling = record { sfits = search rules } in
    let settled = rw (to_z-of_z w32 a.numbers.ceiling fits) at c.plan-answer.ensures in
    job-line (job_of a.numbers a.cells.now) _ _ _ _ _ _ settled c.write_answer.ensures
