-- `board::faults::first_repeat` meets its contract: the loop looks for the first cell that repeats an earlier one. Assumes nothing.
use Rattle.std.proofs.Common.{ℕ, ◌<◌, ◌≡◌, ◌∙◌, sym, ap, ap₂, arith, List, length, take, is_some, nat_lt, length-take-le}
use Rattle.board.specs.First.{found}
use Rattle.board.specs.Board.{at}
use Rattle.board.specs.Faults.{first_holding, repeats, first_repeat}
use Rattle.board.proofs.theory.Firsts.{found_tells}
use Rattle.board.proofs.theory.Faultless.{holding_before}
use Rattle.board.proofs.code.FirstLoop.{further, here, nowhere}
use Rattle.board.proofs.faults.first_repeat.Goals as goal

-- what is found among the cells before cell i tells whether it repeats one
tells : (b : List ℕ) (i : ℕ) → i < length b
    → is_some (found (length (take i b)) (first_holding (take i b) (at b i) (length (take i b)))) ≡ repeats b i
unfolding repeats
tells b i inside =
    found_tells _ _ ∙ ap₂ nat_lt (holding_before b (at b i) i (omega arith)) (length-take-le i b (omega arith))

pub returns-then-is_some : goal.returns-then-is_some
unfolding first_repeat
returns-then-is_some c =
    here _ _ _ c.loop-cell.invariant c.loop-cell-test.true
    (sym (tells _ _ c.loop-cell-test.true) ∙ ap is_some (sym c.first_holding.ensures) ∙ sym c.is_some.ensures ∙ c.if-is_some.true)

pub loop-cell-preserved : goal.loop-cell-preserved
loop-cell-preserved c =
    further _ _ _ c.loop-cell.invariant c.loop-cell-test.true
    (sym (tells _ _ c.loop-cell-test.true) ∙ ap is_some (sym c.first_holding.ensures) ∙ sym c.is_some.ensures ∙ c.if-is_some.false)

pub returns : goal.returns
unfolding first_repeat
returns c =
    nowhere _ _ _ c.loop-cell.invariant c.loop-cell-test.false
