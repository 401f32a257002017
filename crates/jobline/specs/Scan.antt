-- Reading the text of a job from the left: what stands at the front of a text, and the text behind it. `read_job` is the whole; that it
-- reads exactly the lines of `Grammar` is proved in proofs/. Assumes nothing.
use Rattle.std.specs.Prelude.{ℕ, zero, suc, ◌==◌, nat_le, if◌then◌else◌, Bool, false, ◌&&◌, List, [], ◌∷◌, length, take, drop}
use Rattle.std.specs.Prelude.{ℤ, pos, neg_ℤ, Option, None, Some, option_map, option_and_then}
use Rattle.std.specs.List.{prefix_len}
use Rattle.std.specs.Borrow.{Bor}
use Rattle.jobline.specs.Numeral.{space, line_feed, minus_sign, value_of}
use Rattle.jobline.specs.Grammar.{Job, job_of}
use Rattle.jobline.specs.declared.read.Numbers.{Numbers}

-- what was read at the front of a text, and the text behind it
abbrev pub Read : Type 0 → Type 0
Read A = Option (A × List ℕ)

-- what a function of the code read
abbrev pub read_view : {A : Type 0} → Option (A × Bor (List ℕ)) → Read A
read_view read = option_map (λ r. (r.0, r.1.now)) read

-- a step, and one behind it; none where either reads none
infixl 10 ◌>>=◌
abbrev pub ◌>>=◌ : {A B : Type 0} → Option A → (A → Option B) → Option B
read >>= go = option_and_then go read

-- the text behind a byte at the front
abbrev pub behind : ℕ → List ℕ → Option (List ℕ)
behind byte [] = None
behind byte (first ∷ rest) = if first == byte then Some rest else None

abbrev pub is_digit : ℕ → Bool
is_digit b = nat_le 48 b && nat_le b 57

-- how many digits a text begins with
abbrev pub run : List ℕ → ℕ
run text = prefix_len is_digit text

-- what digits are worth, if there are any
abbrev pub value_if_any : List ℕ → Option ℕ
value_if_any digits = if nat_le 1 (length digits) then Some (value_of digits) else None

-- a number: all digits at the front, of which there are 1 to 9, worth at most `most`
unfoldable pub read_number : ℕ → List ℕ → Read ℕ
read_number most text =
    let k = run text in
    let v = value_of (take k text) in
    if nat_le 1 k && (nat_le k 9 && nat_le v most) then Some (v, drop k text) else None

-- a field: one space and then the number
unfoldable pub read_field : ℕ → List ℕ → Read ℕ
read_field most text = do
  digits ← behind space text
  read_number most digits

-- the largest number of nine digits
abbrev pub nines : ℕ
nines = 999999999

-- a number of at most nine digits, as it is where no minus stood before it and else as its negative
abbrev pub plain : Read ℕ → Read ℤ
plain read = option_map (λ r. (pos r.0, r.1)) read

abbrev pub negated : Read ℕ → Read ℤ
negated read = option_map (λ r. (neg_ℤ (pos r.0), r.1)) read

abbrev pub signed : List ℕ → Option (List ℕ) → Read ℤ
signed text None = plain (read_number nines text)
signed text (Some digits) = negated (read_number nines digits)

-- the field of the ceiling: one space, and then the number behind a minus where one stands
unfoldable pub read_ceiling : List ℕ → Read ℤ
read_ceiling text = do
  number ← behind space text
  signed number (behind minus_sign number)

-- the six numbers before the cells
unfoldable pub read_head : List ℕ → Read Numbers
read_head text = do
  width ← read_number 255 text
  height ← read_field 255 width.1
  ceiling ← read_ceiling height.1
  budget ← read_field nines ceiling.1
  p ← read_field 255 budget.1
  q ← read_field 255 p.1
  Some (record { width = width.0; height = height.0; ceiling = ceiling.0; budget = budget.0; p = p.0; q = q.0 }, q.1)

-- the text is the line feed alone
abbrev pub ends : List ℕ → Bool
ends [] = false
ends (b ∷ []) = b == line_feed
ends (b ∷ c ∷ rest) = false

-- the cells to the end of the text, of which there may be k
unfoldable pub read_cells : ℕ → List ℕ → Option (List ℕ)
read_cells zero text = if ends text then Some [] else None
read_cells (suc k) text =
    if ends text then Some [] else (do
      cell ← read_field 255 text
      cells ← read_cells k cell.1
      Some (cell.0 ∷ cells))

-- the job that a text spells, or none
unfoldable pub read_job : List ℕ → Option Job
read_job text =
    if nat_le (length text) 256 then (do
      head ← read_head text
      cells ← read_cells 32 head.1
      Some (job_of head.0 cells)) else None
