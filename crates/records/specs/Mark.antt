-- The mark: 32-bit FNV-1a over bytes, start 2166136261, factor 16777619, each product kept to 32 bits; and its four bytes, the high one
-- first. Assumes nothing.
use Rattle.std.specs.Prelude.{ℕ, ◌*◌, ◌/◌, ◌%◌, List, [], ◌∷◌}
use Rattle.std.specs.Int.Bits.{bit_xor}

-- a product kept to 32 bits
abbrev pub times : ℕ → ℕ → ℕ
times x y = x * y % 4294967296

-- one byte more: FNV-1a takes it in before it multiplies
unfoldable pub mark_step : ℕ → ℕ → ℕ
mark_step m b = times (bit_xor m b) 16777619

unfoldable pub mark_from : ℕ → List ℕ → ℕ
mark_from m [] = m
mark_from m (b ∷ bs) = mark_from (mark_step m b) bs

unfoldable pub mark : List ℕ → ℕ
mark bytes = mark_from 2166136261 bytes

abbrev pub mark_bytes : ℕ → List ℕ
mark_bytes m = m / 16777216 % 256 ∷ m / 65536 % 256 ∷ m / 256 % 256 ∷ m % 256 ∷ []
