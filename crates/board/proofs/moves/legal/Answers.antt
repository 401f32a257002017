-- `board::moves::legal` meets its contract: the empty cell that the position holds is the board's. Assumes nothing.
use Prim.Native.Nat.{ℕ}
use mathlib.Core.Path.{◌∙◌, ap}
use Rattle.board.specs.Moves.{stays_on, legal}
use Rattle.board.proofs.code.Holding.{empty-below}
use Rattle.board.proofs.moves.legal.Goals as goal

pub stays_on-requires-clause-e_bound : goal.stays_on-requires-clause-e_bound
stays_on-requires-clause-e_bound c =
    empty-below _ _ c.requires

pub returns : goal.returns
unfolding legal
returns c =
    let a = c.args in
    c.stays_on.ensures ∙ ap (λ (e : ℕ). stays_on a.shape e a.m) c.requires.empty
