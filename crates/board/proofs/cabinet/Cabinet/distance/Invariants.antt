-- What the loop of `board::cabinet::Cabinet::distance` keeps. Assumes nothing.
use Prim.Native.Nat.{ℕ, suc, ◌+◌, ◌*◌, ◌≤◌}
use mathlib.Core.Path.{◌≡◌}
use mathlib.Core.List.{List, [], ◌∷◌}
use lib.ListN.{get_or, drop}
use Rattle.board.specs.Digits.{digits}
use Rattle.board.proofs.cabinet.Cabinet.distance.Given as goal

-- what f gives for the cells i, i + 1, .., summed
unfoldable pub sum_from : (ℕ → ℕ → ℕ) → ℕ → List ℕ → ℕ
sum_from f i [] = 0
sum_from f i (v ∷ vs) = f i v + sum_from f (suc i) vs

abbrev pub looked_up_in : List ℕ → ℕ → ℕ → ℕ
looked_up_in near i v = get_or near (64 * i + v) 0

-- the cells below i have been summed
pub record Summed (f : ℕ → ℕ → ℕ) (b : List ℕ) (n sum i : ℕ) : Type 0 where
  pub within : i ≤ n
  pub whole : sum + sum_from f i (drop i b) ≡ sum_from f 0 b

abbrev pub invariant-loop-i : goal.invariant-loop-i
invariant-loop-i l =
    Summed (looked_up_in l.self.near) (digits l.i-end l.p.cells) l.i-end l.sum l.i
