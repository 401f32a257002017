-- A number's digits in base 16, four bits each, the lowest first. Assumes nothing.
use Rattle.std.specs.Prelude.{ℕ, zero, suc, ◌/◌, ◌%◌, ◌^◌, List, [], ◌∷◌}

-- the n lowest digits
unfoldable pub digits : ℕ → ℕ → List ℕ
digits zero x = []
digits (suc n) x = (x % 16) ∷ digits n (x / 16)

-- digit i
abbrev pub digit : ℕ → ℕ → ℕ
digit x i = x / 16 ^ i % 16
