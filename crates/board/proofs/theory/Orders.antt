-- Exchanges that put a board in order have the parity of its inversions: each turns it (Inversions), and in order there are none
-- (Parities). Assumes nothing.
use Prim.Native.Nat.{ℕ, ◌%◌, ◌<◌}
use mathlib.Core.Path.{◌≡◌, ◌∙◌, ap}
use mathlib.Core.List.{List}
use native.Mathlib.Omega.{arith}
use lib.ListN.{length}
use Rattle.board.specs.declared.Shape.{Shape}
use Rattle.board.specs.Shape.{cells}
use Rattle.board.specs.Board.{IsBoard}
use Rattle.board.specs.Parity.{inversions}
use Rattle.board.specs.Order.{OrderedBy, already, exchange}
use Rattle.board.proofs.theory.Boards.{goal-is}
use Rattle.board.proofs.theory.Swaps.{swapped, swapped-board}
use Rattle.board.proofs.theory.Inversions.{swap_turns-inversions}
use Rattle.board.proofs.theory.Parities.{goal-inversions}

pub ordered-parity : (s : Shape) (b : List ℕ) (k : ℕ) → IsBoard s b → OrderedBy b k → k % 2 ≡ inversions b % 2
ordered-parity s b k board (already own) =
    let none = ap inversions (goal-is s b board.long (λ i h. own i (rw board.long h))) ∙ goal-inversions s in
    omega arith
ordered-parity s b k board (exchange i j differ p q rest) =
    let inside : (m : ℕ) → m < length b → m < cells s = λ m h. rw (← board.long) h in
    let turned = swap_turns-inversions b i j (rw board.long board.once) differ p q in
    let after = ordered-parity s (swapped b i j) _ (swapped-board i j differ s b (inside i p) (inside j q) board) rest in
    omega arith
