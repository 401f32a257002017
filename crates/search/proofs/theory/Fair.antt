-- What is asked of a static value, so that the search keeps its promise: `Good`, a stored value that no walk within the ceiling
-- disproves, and `Fair`, the four conditions. Then that any value is good where the ceiling can't be met, and that f = q × g + p × h
-- is fair. A search by another static value rests on `Fair` alone. Rests on `Walks.antt`. Assumes nothing.
use Prim.Native.Nat.{ℕ, ◌+◌, ◌*◌, ◌≤◌, ◌<◌}
use native.Mathlib.Nat.{mul-le-mul_left, mul-le-mul_right}
use native.Mathlib.Omega.{arith}
use Rattle.search.specs.declared.Weight.{Weight}
use Rattle.search.specs.Space.{Space}
use Rattle.search.specs.Row.{infinity}
use Rattle.search.specs.Search.{static}
use Rattle.search.proofs.theory.Laws.{Laws}
use Rattle.search.proofs.theory.Walks.{Walk, walk-distance}

-- the value F of a state at depth g is at most p times the moves of every way through it within the ceiling
abbrev pub Good : (S : Space) → Weight → ℕ → ℕ → ℕ → S.State → ℕ → Type 0
Good S w ceiling g last s F = (n : ℕ) → Walk S last s n → g + n ≤ ceiling → F ≤ w.p * (g + n)

pub record Fair (S : Space) (I : S.State → Type 0) (w : Weight) (ceiling : ℕ) (f : ℕ → S.State → ℕ) : Type 0 where
  pub weight : w.q ≤ w.p
  pub finite : w.p * ceiling < infinity
  -- the moves made count in full
  pub made : (g : ℕ) (s : S.State) → I s → g ≤ ceiling → w.q * g ≤ f g s
  pub good : (g last : ℕ) (s : S.State) → I s → Good S w ceiling g last s (f g s)

module _ (S : Space) (I : S.State → Type 0) (laws : Laws S I) (w : Weight) (ceiling : ℕ) where
  -- where g + h is above the ceiling no walk is within it, so that every value is good, infinity too
  pub above_good : (g last : ℕ) (s : S.State) (F : ℕ) → I s → ceiling < g + S.dist s → Good S w ceiling g last s F
  above_good g last s F i above n walk h = absurd (omega (arith, walk-distance S I laws n last s i walk))

  pub static-fair : w.q ≤ w.p → w.p * ceiling < infinity → Fair S I w ceiling (static S w)
  unfolding static
  static-fair weight finite =
      record {
        weight = weight;
        finite = finite;
        made = λ g s i h. omega arith;
        good = λ g last s i n walk h.
            let near = walk-distance S I laws n last s i walk in
            omega (arith, mul-le-mul_right g weight, mul-le-mul_left w.p near);
      }
