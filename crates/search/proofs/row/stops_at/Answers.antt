-- `search::row::stops_at` meets its contract: the two halves of the code's test deny those of the definition's, since a value of
-- 16 bits is at most infinity. Assumes nothing.
use Prim.Native.Nat.{ℕ, ◌≤◌, ◌<◌}
use mathlib.Core.Path.{◌≡◌, refl, ap, sym}
use mathlib.Core.Bool.{Bool, true, false, not}
use native.Mathlib.Omega.{arith}
use lib.Dec.{ltb, eqb}
use borrow.Author.Tests.{lt-leb, le-leb, lt-ltb, le-ltb, eqb-true, eqb-false}
use Rattle.search.specs.Row.{infinity, may_go_on}
use Rattle.search.proofs.row.stops_at.Goals as goal

above-bound : (bound least : ℕ) → bound < least → ltb bound least ≡ not (may_go_on bound least)
unfolding may_go_on
above-bound bound least h = rw (lt-ltb bound least h, lt-leb least bound h)

within-bound : (bound least : ℕ) → least ≤ bound → least ≤ infinity → eqb least infinity ≡ not (may_go_on bound least)
unfolding may_go_on
within-bound bound least h most = rw (le-leb least bound h) (go (eqb least infinity) refl)
  where
    go : (t : Bool) → eqb least infinity ≡ t → t ≡ not (ltb least infinity)
    go true e = ap not (sym (le-ltb least infinity (omega (arith, eqb-true least infinity e))))
    go false e = ap not (sym (lt-ltb least infinity (omega (arith, eqb-false least infinity e))))

pub returns-then-bound-least : goal.returns-then-bound-least
returns-then-bound-least c =
    above-bound _ _ c.if-bound-least.true

pub returns-else-bound-least : goal.returns-else-bound-least
returns-else-bound-least c =
    within-bound _ _ c.if-bound-least.false (omega arith)
