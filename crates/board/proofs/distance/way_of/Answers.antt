-- `board::distance::way_of` meets its contract: what takes the move back stays, and else it is as after no move. Assumes nothing.
use Prim.Native.Nat.{ℕ, ◌+◌, ◌%◌, ◌<◌}
use mathlib.Core.Path.{◌≡◌, sym, ◌∙◌}
use native.Mathlib.Omega.{arith}
use borrow.Author.Tests.{eq-eqb, ne_eqb}
use Rattle.board.specs.declared.Shape.{Shape}
use Rattle.board.specs.Distance.{way}
use Rattle.board.proofs.theory.Ways.{way_back}
use Rattle.board.proofs.distance.way_of.Goals as goal

-- where the last move is not taken back, it does not matter
other : (s : Shape) (e last m : ℕ) → (last + m ≡ 3 → ⊥) → m < 4 → way s e 4 m ≡ way s e last m
unfolding way
other s e last m ne below = rw (ne_eqb (last + m) 3 ne, ne_eqb (4 + m) 3 (λ h. omega arith))

pub returns-then-k-eq3 : goal.returns-then-k-eq3
returns-then-k-eq3 c = sym (way_back _ _ _ _ (eq-eqb _ _ c.if-k-eq3.true))

pub returns-else-k-eq3 : goal.returns-else-k-eq3
returns-else-k-eq3 c =
    c.requires.first_ways.each (c.args.k % 4) (omega arith) ∙ other _ _ _ _ c.if-k-eq3.false (omega arith)
