-- The short call, which names no weight: the call at this one. Every entry's short call is this. Assumes nothing.
use Rattle.std.specs.Prelude.{ℕ, List, ℤ}
use Rattle.search.specs.declared.Weight.{Weight}
use Rattle.planner.specs.Answer.{Call, called}

-- 3 over 2
abbrev pub short_weight : Weight
short_weight = record { p = 3; q = 2 }

-- the short call with these inputs
abbrev pub called_short : ℕ → ℕ → List ℕ → ℤ → ℕ → List ℕ → List ℕ → Call
called_short width height board ceiling budget moves table =
    called width height board ceiling budget short_weight.p short_weight.q moves table
