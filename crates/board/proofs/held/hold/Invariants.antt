-- What the loop of `board::held::hold` keeps. Assumes nothing.
use Prim.Native.Nat.{ℕ, ◌≤◌, ◌-◌}
use mathlib.Core.Path.{◌≡◌}
use mathlib.Core.List.{List}
use lib.ListN.{length, drop}
use Rattle.board.proofs.theory.Digits.{packed}
use Rattle.board.proofs.held.hold.Given as goal

-- the loop has packed the last k cells
pub record Packing (b : List ℕ) (x k : ℕ) : Type 0 where
  pub within : k ≤ length b
  pub packs : x ≡ packed (drop (length b - k) b)

abbrev pub invariant-loop-x : goal.invariant-loop-x
invariant-loop-x l =
    Packing l.board l.cells (length l.yielded)
