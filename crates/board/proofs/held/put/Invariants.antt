-- What the loop of `board::held::put` keeps. Assumes nothing.
use Prim.Native.Nat.{ℕ, ◌≤◌}
use mathlib.Core.Path.{◌≡◌}
use mathlib.Core.List.{List, ◌++◌}
use lib.ListN.{length, take, drop}
use Rattle.board.specs.Digits.{digits}
use Rattle.board.proofs.held.put.Given as goal

-- the first i of the cells l, in front of what was found after them
abbrev pub puts : List ℕ → List ℕ → ℕ → List ℕ
puts l found i = take i l ++ drop i found

-- the loop at cell i
pub record Putting (l found out : List ℕ) (n i : ℕ) : Type 0 where
  pub within : i ≤ n
  pub cells-last : n ≤ length l
  pub room : n ≤ length found
  pub same : out ≡ puts l found i

abbrev pub invariant-loop-i : goal.invariant-loop-i
invariant-loop-i l =
    Putting (digits l.i-end l.p.cells) l.initial.out l.out l.i-end l.i
