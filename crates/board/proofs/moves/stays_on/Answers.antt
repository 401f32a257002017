-- `board::moves::stays_on` meets its contract: each way out is the definition's clause for the move. Assumes nothing.
use Rattle.std.proofs.Common.{ℕ, zero, suc, ◌≡◌, ◌≤◌, refl, false, arith}
use Rattle.board.specs.declared.Shape.{Shape}
use Rattle.board.specs.Moves.{stays_on}
use Rattle.board.proofs.moves.stays_on.Goals as goal

no_move : (s : Shape) (e m : ℕ) → 4 ≤ m → false ≡ stays_on s e m
unfolding stays_on
no_move s e zero h = absurd (omega arith)
no_move s e (suc zero) h = absurd (omega arith)
no_move s e (suc (suc zero)) h = absurd (omega arith)
no_move s e (suc (suc (suc zero))) h = absurd (omega arith)
no_move s e (suc (suc (suc (suc m)))) h = refl

pub returns-in-0 : goal.returns-in-0
unfolding stays_on
returns-in-0 c =
    rw (c.in-0.is, c.row_and_column-row.ensures.row)

pub returns-in-1 : goal.returns-in-1
unfolding stays_on
returns-in-1 c =
    rw (c.in-1.is, c.row_and_column-row.ensures.column)

pub returns-in-2 : goal.returns-in-2
unfolding stays_on
returns-in-2 c =
    rw (c.in-2.is, c.row_and_column-row.ensures.column)

pub returns-in-3 : goal.returns-in-3
unfolding stays_on
returns-in-3 c =
    rw (c.in-3.is, c.row_and_column-row.ensures.row)

pub returns-in_default : goal.returns-in_default
returns-in_default c =
    no_move _ _ _ (omega arith)
