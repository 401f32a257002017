-- How what was read is handed back: the numbers in the answer, the cells in the lent array.
-- Assumes nothing.
use Rattle.std.specs.Prelude.{ℕ, ◌≡◌, List, length, Option, None, Some, Result, Ok, Err}
use Rattle.std.proofs.lemmas.List.Edits.{sets}
use Rattle.jobline.specs.Grammar.{Job}
use Rattle.jobline.specs.declared.read.Numbers.{Numbers}
use Rattle.jobline.specs.declared.read.Malformed.{Malformed}

-- what a reading answers: the numbers before the cells and how many cells there are, or that the text is not of the grammar
abbrev pub Reading : Type 0
Reading = Result (Numbers × ℕ) Malformed

abbrev pub malformed : Malformed
malformed = record {}

-- the answer for what was read
abbrev pub answer_of : Option Job → Reading
answer_of None = Err malformed
answer_of (Some job) = Ok (job.numbers, length job.cells)

-- the lent cells afterwards: the job's cells stored from the first place on; as found where there is no job
abbrev pub cells_of : Option Job → List ℕ → List ℕ
cells_of None old = old
cells_of (Some job) old = sets old 0 job.cells

-- a reading answers for what was read, and the cells became new
pub record Answers (read : Option Job) (old : List ℕ) (answer : Reading) (new : List ℕ) : Type 0 where
  pub numbers : answer ≡ answer_of read
  pub cells : new ≡ cells_of read old

-- the cells were counted, and stored from the first place on
abbrev pub Counted : Option (List ℕ) → List ℕ → Option ℕ → List ℕ → Type 0
Counted None old answer new = answer ≡ None
Counted (Some ns) old answer new = (answer ≡ Some (length ns)) × (new ≡ sets old 0 ns)
