-- `board::moves::leads_to` meets its contract: a move that stays on the grid leads to a cell, by the clause for that move.
-- Assumes nothing.
use Prim.Native.Nat.{ℕ, zero, suc, ◌<◌, ◌≤◌, ◌+◌, ◌/◌, ◌%◌}
use mathlib.Core.Path.{◌≡◌, refl}
use native.Mathlib.Omega.{arith}
use borrow.Author.Tests.{ltb-true}
use Rattle.board.specs.declared.Shape.{Shape}
use Rattle.board.specs.Shape.{Side, two, three, four}
use Rattle.board.specs.Moves.{stays_on, leads_to}
use Rattle.board.proofs.theory.Sides.{side_within, cells-within}
use Rattle.board.proofs.moves.leads_to.Goals as goal

below-a-row : {w : ℕ} → Side w → (e : ℕ) → 0 < e / w → w ≤ e
below-a-row two e h = omega arith
below-a-row three e h = omega arith
below-a-row four e h = omega arith

right-of-a-column : {w : ℕ} → Side w → (e : ℕ) → 0 < e % w → 1 ≤ e
right-of-a-column two e h = omega arith
right-of-a-column three e h = omega arith
right-of-a-column four e h = omega arith

-- the last clause serves every move that is none of the first three
last-clause : (s : Shape) (e m : ℕ) → 3 ≤ m → e + s.width ≡ leads_to s e m
unfolding leads_to
last-clause s e zero h = absurd (omega arith)
last-clause s e (suc zero) h = absurd (omega arith)
last-clause s e (suc (suc zero)) h = absurd (omega arith)
last-clause s e (suc (suc (suc m))) h = refl

pub overflow_sub-result : goal.overflow_sub-result
unfolding stays_on
overflow_sub-result c =
    below-a-row c.requires.good_shape.wide _ (ltb-true _ _ (rw c.in-0.is at c.requires.on_the_grid))

pub returns-in-0 : goal.returns-in-0
unfolding leads_to
returns-in-0 c =
    rw c.in-0.is

pub overflow_sub-result-in-1 : goal.overflow_sub-result-in-1
unfolding stays_on
overflow_sub-result-in-1 c =
    right-of-a-column c.requires.good_shape.wide _ (ltb-true _ _ (rw c.in-1.is at c.requires.on_the_grid))

pub returns-in-1 : goal.returns-in-1
unfolding leads_to
returns-in-1 c =
    rw c.in-1.is

pub returns-in-2 : goal.returns-in-2
unfolding leads_to
returns-in-2 c =
    rw c.in-2.is

pub overflow_add-result-in_default : goal.overflow_add-result-in_default
overflow_add-result-in_default c =
    let good = c.requires.good_shape in
    omega (arith, cells-within good, side_within good.wide)

pub returns-in_default : goal.returns-in_default
returns-in_default c =
    last-clause _ _ _ (omega arith)
