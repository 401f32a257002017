-- The line of an answer: a plan's or a refusal's, its numbers in decimal without leading zeros, its fields as in the line of a job.
-- What becomes of a buffer that a line is put into is in `Put`. Assumes nothing.
use Rattle.std.specs.Prelude.{ℕ, zero, suc, ◌+◌, ◌/◌, ◌%◌, nat_lt, if◌then◌else◌, List, [], ◌∷◌, ◌++◌, map, length}
use Rattle.std.specs.Prelude.{slice_index_or, codes}
use Rattle.jobline.specs.Numeral.{space}
use Rattle.jobline.specs.Grammar.{line}

-- the digits of n: those of n / 10 and then the last one, until one digit is left. The first argument bounds how often
unfoldable pub digits_of : ℕ → ℕ → List ℕ
digits_of zero n = (48 + n) ∷ []
digits_of (suc k) n =
    let front = digits_of k (n / 10) in
    if nat_lt n 10 then (48 + n) ∷ [] else front ++ (48 + n % 10) ∷ []

-- n in decimal; n / 10 is below n where n is not 0, so n times are enough
unfoldable pub decimal : ℕ → List ℕ
decimal n = digits_of n n

-- U, L, R, D for the moves 0, 1, 2, 3; a byte that is no move, which no plan has, is shown as a question mark
abbrev pub letter : ℕ → ℕ
letter m = slice_index_or (codes "ULRD") m 63

-- the moves' letters; a single dash where there are none
abbrev pub letters : List ℕ → List ℕ
letters [] = 45 ∷ []
letters (m ∷ ms) = letter m ∷ map letter ms

-- a word and two numbers, with which both lines begin
abbrev pub opening : List ℕ → ℕ → ℕ → List ℕ
opening word a b = word ++ (space ∷ decimal a) ++ (space ∷ decimal b)

-- plan, length, visits, letters
abbrev pub plan_word : List ℕ
plan_word = codes "plan"

unfoldable pub plan_line : ℕ → List ℕ → List ℕ
plan_line visits moves = line plan_word (decimal (length moves) ∷ decimal visits ∷ letters moves ∷ [])

-- refused, number, cell, visits
abbrev pub refused_word : List ℕ
refused_word = codes "refused"

unfoldable pub refused_line : ℕ → ℕ → ℕ → List ℕ
refused_line number cell visits = line refused_word (decimal number ∷ decimal cell ∷ decimal visits ∷ [])
