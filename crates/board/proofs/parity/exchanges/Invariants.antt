-- What the loop of `board::parity::exchanges` keeps, and what falls at each turn. Assumes nothing.
use Rattle.std.proofs.Common.{ℕ, List}
use lib.ListN.{take}
use Rattle.board.proofs.code.Cycles.{Following, turns_left, in_hand}
use Rattle.board.proofs.parity.exchanges.Given as goal

-- the turns that are left, with `hand` in hand at the cell i
abbrev pub measure : ℕ → List ℕ → ℕ → ℕ → ℕ
measure n cells hand i = turns_left (in_hand n cells i hand) n i

abbrev pub invariant-loop-i : goal.invariant-loop-i
invariant-loop-i l =
    Following (take l.n l.initial.cells) (in_hand l.n l.cells l.i l.hand) l.n l.count l.i

abbrev pub decreases-loop-i : goal.decreases-loop-i
decreases-loop-i l = measure l.n l.cells l.hand l.i
