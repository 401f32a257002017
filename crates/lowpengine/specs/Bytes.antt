-- The table as the controller lends it: two bytes for each number, low byte first. An odd last byte belongs to no number.
-- Then how many numbers an answer leaves cleared. Assumes nothing.
use Rattle.std.specs.Prelude.{ℕ, ◌+◌, ◌*◌, ◌/◌, ◌%◌, ◌<◌, Bool, true, false, List, [], ◌∷◌, ℤ, get_or}
use Rattle.search.specs.Run.{rows_for}
use Rattle.planner.specs.Limits.{ceiling_of}

-- every entry is a byte
abbrev pub AllBytes : List ℕ → Type 0
AllBytes t = (i : ℕ) → get_or t i 0 < 256

-- the numbers that the bytes give
unfoldable pub numbers : List ℕ → List ℕ
numbers [] = []
numbers (only ∷ []) = []
numbers (low ∷ (high ∷ rest)) = (low + 256 * high) ∷ numbers rest

-- numbers as bytes again
unfoldable pub bytes_of : List ℕ → List ℕ
bytes_of [] = []
bytes_of (n ∷ rest) = (n % 256) ∷ ((n / 256) ∷ bytes_of rest)

-- the last byte of an odd count of bytes, as a list; else none
unfoldable pub odd_byte : List ℕ → List ℕ
odd_byte [] = []
odd_byte (only ∷ []) = only ∷ []
odd_byte (low ∷ (high ∷ rest)) = odd_byte rest

-- how many table numbers are cleared: those of the search where it was run, and else none
abbrev pub numbers_used : Bool → ℤ → ℕ
numbers_used true ceiling = rows_for (ceiling_of ceiling)
numbers_used false ceiling = 0
