-- `search::row::above_ceiling` meets its contract: h is above what is left of the ceiling exactly if g + h is above it.
-- Assumes nothing.
use Prim.Native.Nat.{ℕ, ◌+◌, ◌-◌, ◌≤◌}
use mathlib.Core.Path.{◌≡◌, refl, sym}
use mathlib.Core.Bool.{Bool, true, false}
use native.Mathlib.Omega.{arith}
use lib.Dec.{ltb}
use borrow.Author.Tests.{ltb-true, ltb-false, lt-ltb, le-ltb}
use Rattle.search.specs.Row.{above_ceiling}
use Rattle.search.proofs.row.above_ceiling.Goals as goal

left-of-ceiling : (ceiling g h : ℕ) → g ≤ ceiling → ltb (ceiling - g) h ≡ above_ceiling ceiling g h
unfolding above_ceiling
left-of-ceiling ceiling g h made = go (ltb (ceiling - g) h) refl
  where
    go : (t : Bool) → ltb (ceiling - g) h ≡ t → t ≡ ltb ceiling (g + h)
    go true e = sym (lt-ltb ceiling (g + h) (omega (arith, ltb-true (ceiling - g) h e)))
    go false e = sym (le-ltb ceiling (g + h) (omega (arith, ltb-false (ceiling - g) h e)))

pub returns : goal.returns
returns c =
    left-of-ceiling _ _ _ c.requires
