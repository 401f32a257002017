-- The text of a job: which numbers a line spells. It says what a right line is and not how one is read; the reader is in `Scan`.
-- Assumes nothing.
use Rattle.std.specs.Prelude.{ℕ, ◌≤◌, ◌≡◌, List, [], ◌∷◌, ◌++◌, length, ℤ, pos, neg_ℤ}
use Rattle.jobline.specs.Numeral.{space, line_feed, minus_sign, Numeral}
use Rattle.jobline.specs.declared.read.Numbers.{Numbers}

-- a job: its six numbers width, height, ceiling, budget, p and q, as the code has them, and then its cells
pub record Job : Type 0 where
  pub numbers : Numbers
  pub cells : List ℕ

abbrev pub job_of : Numbers → List ℕ → Job
job_of numbers cells = record { numbers = numbers; cells = cells }

-- what stands after a field: each further field behind one space, and a line feed at the end
abbrev pub after : List (List ℕ) → List ℕ
after [] = line_feed ∷ []
after (f ∷ fs) = space ∷ f ++ after fs

-- a line of fields, of which there is at least one
abbrev pub line : List ℕ → List (List ℕ) → List ℕ
line f fs = f ++ after fs

-- s is a number of at most 255
pub record Small (s : List ℕ) (n : ℕ) : Type 0 where
  pub number : Numeral s n
  pub most : n ≤ 255

-- s is a number, or a minus and then a number
pub data Signed : List ℕ → ℤ → Type 0 where
  plain : {s : List ℕ} {n : ℕ} → Numeral s n → Signed s (pos n)
  minus : {s : List ℕ} {n : ℕ} → Numeral s n → Signed (minus_sign ∷ s) (neg_ℤ (pos n))

-- each text is a small number, in order
pub data Smalls : List (List ℕ) → List ℕ → Type 0 where
  none : Smalls [] []
  more : {s : List ℕ} {n : ℕ} {ss : List (List ℕ)} {ns : List ℕ} → Small s n → Smalls ss ns → Smalls (s ∷ ss) (n ∷ ns)

-- the text is one line, whose fields spell the job's numbers
pub record Spells (text : List ℕ) (job : Job) : Type 0 where
  -- the fields as they stand in the text
  pub width_text : List ℕ
  pub height_text : List ℕ
  pub ceiling_text : List ℕ
  pub budget_text : List ℕ
  pub p_text : List ℕ
  pub q_text : List ℕ
  pub cell_texts : List (List ℕ)
  pub whole : text ≡ line width_text (height_text ∷ ceiling_text ∷ budget_text ∷ p_text ∷ q_text ∷ cell_texts)
  pub short : length text ≤ 256
  -- the numbers that they spell
  pub width : Small width_text job.numbers.width
  pub height : Small height_text job.numbers.height
  pub ceiling : Signed ceiling_text job.numbers.ceiling
  pub budget : Numeral budget_text job.numbers.budget
  pub p : Small p_text job.numbers.p
  pub q : Small q_text job.numbers.q
  pub cells : Smalls cell_texts job.cells
  pub count : length job.cells ≤ 32
