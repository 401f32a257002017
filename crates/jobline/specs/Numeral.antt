-- A number in decimal: its digits, what they are worth, and how many there may be. Both the text of a job and the text of an
-- answer are stated by these. Assumes nothing.
use Rattle.std.specs.Prelude.{ℕ, ◌+◌, ◌*◌, ◌-◌, ◌≤◌, ◌≡◌, List, [], ◌∷◌, length}

-- the bytes that are no digits
abbrev pub space : ℕ
space = 32

abbrev pub line_feed : ℕ
line_feed = 10

abbrev pub minus_sign : ℕ
minus_sign = 45

-- a byte from '0' to '9'
abbrev pub Digit : ℕ → Type 0
Digit b = (48 ≤ b) × (b ≤ 57)

-- every byte is a digit
abbrev pub Digits : List ℕ → Type 0
Digits [] = Unit {0}
Digits (b ∷ s) = Digit b × Digits s

-- what the digits s are worth behind digits worth v: each digit adds itself to ten times what stands before it
abbrev pub value_from : ℕ → List ℕ → ℕ
value_from v [] = v
value_from v (b ∷ s) = value_from (v * 10 + (b - 48)) s

abbrev pub value_of : List ℕ → ℕ
value_of s = value_from 0 s

-- s is a number of 1 to 9 digits, worth n
pub record Numeral (s : List ℕ) (n : ℕ) : Type 0 where
  pub digits : Digits s
  pub some : 1 ≤ length s
  pub few : length s ≤ 9
  pub value : value_of s ≡ n
