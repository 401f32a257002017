-- A board: n cells that hold every number from 0 to n - 1 once; 0 is the empty cell. The goal has them in order.
-- Assumes nothing.
use Rattle.std.specs.Prelude.{ℕ, zero, suc, ◌<◌, ◌≡◌, Bool, not, List, [], ◌∷◌, eqb, length, get_or}
use Rattle.board.specs.declared.Shape.{Shape}
use Rattle.board.specs.First.{first_of}
use Rattle.board.specs.Shape.{cells}

-- what stands in cell i
abbrev pub at : List ℕ → ℕ → ℕ
at b i = get_or b i 0

-- n numbers below n, none of them twice: so each number below n stands in exactly one cell
pub record IsBoard (s : Shape) (b : List ℕ) : Type 0 where
  pub long : length b ≡ cells s
  pub small : (i : ℕ) → i < cells s → at b i < cells s
  pub once : (i j : ℕ) → i < j → j < cells s → at b i ≡ at b j → ⊥

-- the empty cell
unfoldable pub empty_cell : List ℕ → ℕ
empty_cell b = first_of (λ i. eqb (at b i) 0) 0 (length b)

-- k numbers in order, from i
unfoldable pub in_order : ℕ → ℕ → List ℕ
in_order i zero = []
in_order i (suc k) = i ∷ in_order (suc i) k

-- 0, 1, 2, .. n - 1
unfoldable pub goal : Shape → List ℕ
goal s = in_order 0 (cells s)

-- the first cell that does not hold its own number is past the last: the goal, as a test
unfoldable pub is_goal : Shape → List ℕ → Bool
is_goal s b = eqb (first_of (λ i. not (eqb (at b i) i)) 0 (cells s)) (cells s)
