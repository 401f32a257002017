-- What is promised of the texts of jobs and answers. A text is read exactly where it is of the grammar, to the numbers that it spells,
-- and no text spells two jobs; a number in decimal is worth itself and has no leading zero; every answer's line fits the program's
-- buffer; the contracts settle what they speak of. Assumes nothing.
use Prim.Native.Nat.{ℕ, ◌≤◌}
use mathlib.Core.Path.{◌≡◌, refl, sym, ap, ◌∙◌}
use mathlib.Core.Bool.{Bool, true, false, cond}
use mathlib.Core.Logic.{◌↔◌}
use mathlib.Core.List.{List, [], ◌∷◌, ◌++◌}
use native.Mathlib.Omega.{arith}
use lib.ListN.{length, get_or, take, drop, length-append}
use Rattle.std.specs.Prelude.{Option, None, Some}
use Rattle.jobline.specs.Numeral.{Digits, value_of}
use Rattle.jobline.specs.Grammar.{Job, Spells}
use Rattle.jobline.specs.Scan.{read_job}
use Rattle.jobline.specs.Held.{Reading, Answers, cells_of}
use Rattle.jobline.specs.Line.{decimal}
use Rattle.jobline.specs.Put.{LineAnswered, room_for}
use Rattle.jobline.specs.Answer.{answer_to}
use Rattle.jobline.proofs.theory.Stores.{take-stored}
use Rattle.jobline.proofs.theory.Sound.{sound}
use Rattle.jobline.proofs.theory.Complete.{complete}
use Rattle.jobline.proofs.theory.Decimal.{decimal-digits, decimal-small, decimal-value, decimal-first}
use Rattle.jobline.proofs.theory.Short.{line-short}

-- a text of the grammar is read to its numbers, and nothing else is read
pub read_exactly : (text : List ℕ) (job : Job) → (read_job text ≡ Some job) ↔ Spells text job
read_exactly text job = (sound text job, complete text job)

-- any other text is refused
pub refused_exactly : (text : List ℕ) → (read_job text ≡ None) ↔ ((job : Job) → Spells text job → ⊥)
refused_exactly text = (never, go (read_job text) refl)
  where
    never : read_job text ≡ None → (job : Job) → Spells text job → ⊥
    never e job s = let f = complete text job s in cc

    go : (r : Option Job) → read_job text ≡ r → ((job : Job) → Spells text job → ⊥) → read_job text ≡ None
    go None e h = e
    go (Some job) e h = absurd (h job (sound text job e))

-- the grammar leaves one reader only: whatever reads it exactly reads as `read_job` does
pub one-reader : (f : List ℕ → Option Job) → ((text : List ℕ) (job : Job) → (f text ≡ Some job) ↔ Spells text job)
    → (text : List ℕ) → f text ≡ read_job text
one-reader f exact text = go (read_job text) refl
  where
    none : read_job text ≡ None → (read : Option Job) → f text ≡ read → f text ≡ None
    none e None is = is
    none e (Some job) is = let c = complete text job ((exact text job).0 is) in cc

    go : (read : Option Job) → read_job text ≡ read → f text ≡ read_job text
    go None e = none e (f text) refl ∙ sym e
    go (Some job) e = (exact text job).1 (sound text job e) ∙ sym e

pub one-job : (text : List ℕ) (a b : Job) → Spells text a → Spells text b → a ≡ b
one-job text a b s t = let e = complete text a s in let f = complete text b t in cc

-- the job's cells are what stands in front of a lent array of 32
pub cells_in_front : (text : List ℕ) (job : Job) (old : List ℕ) → Spells text job → length old ≡ 32
    → take (length job.cells) (cells_of (Some job) old) ≡ job.cells
cells_in_front text job old s h = take-stored old job.cells (omega (arith, s.count))

-- a number in an answer: digits worth the number, of which the first is no 0, unless 0 is the whole
pub record Right (n : ℕ) (s : List ℕ) : Type 0 where
  pub digits : Digits s
  pub value : value_of s ≡ n
  pub first : 1 ≤ n → 49 ≤ get_or s 0 0
  pub nought : n ≡ 0 → s ≡ 48 ∷ []

pub decimal-right : (n : ℕ) → Right n (decimal n)
decimal-right n =
    record {
      digits = decimal-digits n;
      value = decimal-value n;
      first = decimal-first n;
      nought = λ e. rw e (decimal-small 0 (omega arith));
    }

-- every text's answer line fits a buffer of 138 bytes, which the job program has
pub line-fits : (text : List ℕ) → length (answer_to (read_job text)) ≤ 138
line-fits text = line-short (read_job text)

-- any two results that a contract allows are equal
pub answer-settled : (read : Option Job) (old : List ℕ) (a b : Reading) (x y : List ℕ) → Answers read old a x → Answers read old b y
    → (a ≡ b) × (x ≡ y)
answer-settled read old a b x y s t = (s.numbers ∙ sym t.numbers, s.cells ∙ sym t.cells)

pub line-settled : (text old : List ℕ) (a b : Option ℕ) (x y : List ℕ) → LineAnswered text old a x → LineAnswered text old b y
    → (a ≡ b) × (x ≡ y)
line-settled text old a b x y s t = (s.count ∙ sym t.count, s.buffer ∙ sym t.buffer)

-- a line that was put is within the buffer, which stays as long as it was
pub line-within : (text old : List ℕ) (r : ℕ) (new : List ℕ) → LineAnswered text old (Some r) new → r ≤ length new
line-within text old r new a = go (room_for text old) refl
  where
    go : (t : Bool) → room_for text old ≡ t → r ≤ length new
    go true e =
        let counted : Some r ≡ Some (length text) = a.count ∙ ap (λ (t : Bool). cond t (Some (length text)) None) e in
        let size : r ≡ length text = cc in
        let is : new ≡ text ++ drop (length text) old = a.buffer ∙ ap (λ (t : Bool). cond t (text ++ drop (length text) old) old) e in
        omega (arith, ap length is, length-append text (drop (length text) old))
    go false e =
        let none : Some r ≡ None = a.count ∙ ap (λ (t : Bool). cond t (Some (length text)) None) e in
        absurd cc
