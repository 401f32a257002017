-- From a text to its answer line: what the reading, the planning and the writing give each other. In this order:
-- the answer of a job; the job of a text. Assumes nothing.
use Prim.Native.Nat.{ℕ, ◌≤◌}
use mathlib.Core.Path.{◌≡◌, refl, sym, ap, subst, ◌∙◌}
use mathlib.Core.List.{List}
use native.Mathlib.Omega.{arith}
use lib.ListN.{length, take}
use lib.Seq.{length-sets}
use borrow.Author.Tests.{le-leb}
use Rattle.std.specs.Prelude.{Option, None, Some, IsSome, Ok, Err}
use Rattle.planner.specs.Answer.{Answer, Call, answered, Settles, cell, plan_length}
use Rattle.jobline.specs.declared.read.Numbers.{Numbers}
use Rattle.jobline.specs.Grammar.{Job, job_of}
use Rattle.jobline.specs.Scan.{read_job}
use Rattle.jobline.specs.Held.{Reading, malformed, answer_of, cells_of, Answers}
use Rattle.jobline.specs.Line.{refused_line}
use Rattle.jobline.specs.Put.{LineAnswered}
use Rattle.jobline.specs.Answer.{line_of, left_line, call_for, answer_to}
use Rattle.planner.proofs.theory.Small.{Small, answered-small}
use Rattle.jobline.proofs.theory.Stores.{take-stored}
use Rattle.jobline.proofs.theory.Sound.{sound}
use Rattle.jobline.proofs.theory.Short.{line-short}

-- ---- the answer of a job

-- the moves of a plan are in the buffer, and the cell is one of sixteen
pub small-enough : (c : Call) (a : Answer) (moves table : List ℕ) → Settles (answered c) a moves table → length moves ≡ 120
    → (plan_length a ≤ length moves) × (cell a ≤ 15)
small-enough c a moves table settled long =
    let small : Small a = subst Small (sym settled.answer) (answered-small c) in
    (omega (arith, small.length_most), small.cell-most)

-- the line of what the planner left for the job's call
pub job-line : (job : Job) (a : Answer) (moves table old new : List ℕ) (r : Option ℕ) → Settles (answered (call_for job)) a moves table
    → LineAnswered (line_of a moves) old r new → LineAnswered (answer_to (Some job)) old r new
unfolding answer_to
job-line job a moves table old new r settled line = subst (λ (l : List ℕ). LineAnswered l old r new) same line
  where
    same : line_of a moves ≡ left_line (answered (call_for job))
    same = ap (λ (x : Answer). line_of x moves) settled.answer ∙ ap (line_of (answered (call_for job)).answer) settled.moves

-- ---- the job of a text

pub kept-length : (read : Option Job) (old new : List ℕ) (answer : Reading) → Answers read old answer new → length new ≡ length old
kept-length None old new answer a = ap length a.cells
kept-length (Some job) old new answer a = ap length a.cells ∙ length-sets old 0 job.cells

-- a text was read, and the answer has a job's numbers
module _ (text old new : List ℕ) (answer : Reading) (n : Numbers) (count : ℕ) (a : Answers (read_job text) old answer new)
    (e : answer ≡ Ok (n, count)) (long : length old ≡ 32) where
  -- what was read, and how many cells
  record JobOfText : Type 0 where
    is : read_job text ≡ Some (job_of n (take count new))
    few : count ≤ 32

  of-text : JobOfText
  of-text = go (read_job text) refl
    where
      go : (read : Option Job) → read_job text ≡ read → JobOfText
      go None is =
          absurd (cc (a.numbers, ap answer_of is))
      go (Some job) is =
          let same : answer_of (Some job) ≡ Ok (n, count) = ap answer_of (sym is) ∙ sym a.numbers ∙ e in
          let pair : (job.numbers, length job.cells) ≡ (n, count) = cc in
          let numbers : job.numbers ≡ n = ap (λ (r : Numbers × ℕ). r.0) pair in
          let counted : length job.cells ≡ count = ap (λ (r : Numbers × ℕ). r.1) pair in
          let spells = sound text job is in
          let stored : new ≡ cells_of (Some job) old = a.cells ∙ ap (λ (o : Option Job). cells_of o old) is in
          let front : take count new ≡ job.cells =
          rw (← counted, stored) (take-stored old job.cells (omega (arith, spells.count))) in
          record { is = is ∙ rw (front, ← numbers); few = rw (← counted) spells.count }

  pub job-count : count ≤ length new
  job-count = omega (arith, of-text.few, kept-length (read_job text) old new answer a)

  pub text-line : (out out' : List ℕ) (r : Option ℕ)
      → LineAnswered (answer_to (Some (job_of n (take count new)))) out r out' → LineAnswered (answer_to (read_job text)) out r out'
  text-line out out' r line = subst (λ (o : Option Job). LineAnswered (answer_to o) out r out') (sym of-text.is) line

pub malformed_line : (text old new : List ℕ) (answer : Reading) (out out' : List ℕ) (r : Option ℕ)
    → Answers (read_job text) old answer new → answer ≡ Err malformed
    → LineAnswered (refused_line 12 0 0) out r out' → LineAnswered (answer_to (read_job text)) out r out'
unfolding answer_to
malformed_line text old new answer out out' r a e line = go (read_job text) refl
  where
    go : (read : Option Job) → read_job text ≡ read → LineAnswered (answer_to (read_job text)) out r out'
    go None is = subst (λ (o : Option Job). LineAnswered (answer_to o) out r out') (sym is) line
    go (Some job) is =
        let z : ◌≡◌ {A = ℕ} 0 1 = cc (a.numbers, ap answer_of is) in
        absurd (omega arith)

-- a buffer of 138 bytes always gets its line
pub line-there : (read : Option Job) (old : List ℕ) (r : Option ℕ) (new : List ℕ) → LineAnswered (answer_to read) old r new
    → 138 ≤ length old → IsSome r
line-there read old r new a room =
    rw (a.count, le-leb (length (answer_to read)) (length old) (omega (arith, line-short read)))
