-- "The first cell that ..": the first number of a range at which a test holds. Every rule that reports a first place uses it.
-- Assumes nothing.
use Rattle.std.specs.Prelude.{ℕ, zero, suc, Bool, cond, ltb, Option, Some, None}

-- of i, i + 1, .. (k numbers in all) the first at which f holds; i + k where it holds at none
unfoldable pub first_of : (ℕ → Bool) → ℕ → ℕ → ℕ
first_of f i zero = i
first_of f i (suc k) = cond (f i) i (first_of f (suc i) k)

-- a first place below the bound, or none
abbrev pub found : ℕ → ℕ → Option ℕ
found bound i = cond (ltb i bound) (Some i) None
