-- `answer::answer_line` meets its contract: a text is read to its job, and any other is refused.
-- Assumes nothing.
use mathlib.Core.Path.{refl, sym}
use lib.Seq.{length-take-le}
use Rattle.jobline.specs.Scan.{read_job}
use Rattle.jobline.proofs.code.Answering.{job-count, malformed_line, text-line, line-there}
use Rattle.jobline.proofs.answer.answer_line.Goals as goal

pub slice_bounds-cells-end : goal.slice_bounds-cells-end
slice_bounds-cells-end c =
    -- as many cells were stored as were counted
    job-count _ _ _ _ _ _ c.read_job.ensures c.in-Ok.is refl

pub slice_bounds-answer_job-end : goal.slice_bounds-answer_job-end
slice_bounds-answer_job-end c =
    sym (length-take-le _ _ (job-count _ _ _ _ _ _ c.read_job.ensures c.in-Ok.is refl))

pub returns-in-Err : goal.returns-in-Err
returns-in-Err c =
    let line = malformed_line _ _ _ _ _ _ _ c.read_job.ensures c.in-Err.is (rw c.number.ensures at c.write_refusal.ensures) in
    record { line = line; there = line-there (read_job _) _ _ _ line }

pub returns-in-Ok : goal.returns-in-Ok
returns-in-Ok c =
    let line = text-line _ _ _ _ _ _ c.read_job.ensures c.in-Ok.is refl _ _ _ c.answer_job.ensures in
    record { line = line; there = line-there (read_job _) _ _ _ line }
