-- `read::read` meets its contract: the numbers, the tests of the end, and then the plan that they tell. Assumes nothing.
use Prim.Native.Nat.{◌+◌, ◌-◌}
use native.Mathlib.Omega.{arith}
use mathlib.Core.Path.{sym, ◌∙◌}
use lib.Seq.{length-take-le}
use Rattle.std.proofs.Common.{rules}
use Rattle.std.proofs.lemmas.Result.{err_from_is_err_and}
use Rattle.records.proofs.theory.Whole.{numbers_opened}
use Rattle.records.proofs.code.Reading.{few_sides, of-bytes, numbers-stop, numbers-go, end_refused, end-inside, end-passed}
use Rattle.records.proofs.read.read.Goals as goal

pub returns-in_err-numbers : goal.returns-in_err-numbers
returns-in_err-numbers c =
    let p = err_from_is_err_and c.from_residual.result c.from_residual.ensures.1 in
    rw (p.1, p.2) (numbers-stop _ _ _ c.in_err-numbers.ensures)

pub overflow_add-end : goal.overflow_add-end
overflow_add-end c =
    omega (arith, (numbers_opened _ _ _ _ c.in_ok-numbers.ensures).read)

pub ended_at-requires : goal.ended_at-requires
ended_at-requires c =
    omega (arith, (numbers_opened _ _ _ _ c.in_ok-numbers.ensures).read)

pub returns-in_err-ended_at : goal.returns-in_err-ended_at
returns-in_err-ended_at c =
    let p = err_from_is_err_and c.from_residual-in_err-ended_at.result c.from_residual-in_err-ended_at.ensures.1 in
    rw (p.1, p.2)
    (numbers-go _ _ _ _ _ c.in_ok-numbers.ensures
    (end_refused _ _ c.in_ok-numbers.numbers _ _ _ c.ended_at.ensures _ c.in_err-ended_at.was))

pub overflow_mul-n : goal.overflow_mul-n
overflow_mul-n c =
    let read = (numbers_opened _ _ _ _ c.in_ok-numbers.ensures).read in
    omega (arith, few_sides read.board.wide read.board.high)

pub slice_bounds-board-end : goal.slice_bounds-board-end
slice_bounds-board-end c =
    let read = (numbers_opened _ _ _ _ c.in_ok-numbers.ensures).read in
    omega (arith, few_sides read.board.wide read.board.high, c.map-board.ensures.items.long)

pub slice_bounds-read_plan-end : goal.slice_bounds-read_plan-end
slice_bounds-read_plan-end c =
    let read = (numbers_opened _ _ _ _ c.in_ok-numbers.ensures).read in
    sym (length-take-le _ c.map-board.result (omega (arith, few_sides read.board.wide read.board.high, c.map-board.ensures.items.long)))

pub slice_bounds-read_plan-end-2 : goal.slice_bounds-read_plan-end-2
slice_bounds-read_plan-end-2 c =
    end-inside _ c.args.out.now c.in_ok-numbers.numbers c.numbers_in.new.cells c.in_ok-numbers.at _ c.ended_at.ensures c.in_ok-ended_at.was

pub returns : goal.returns
returns c =
    let n = c.in_ok-numbers.numbers in
    let cells = c.numbers_in.new.cells in
    let read = (numbers_opened _ _ _ _ c.in_ok-numbers.ensures).read in
    numbers-go _ _ _ _ _ c.in_ok-numbers.ensures
    (end-passed _ _ n _ c.in_ok-numbers.at _ c.ended_at.ensures c.in_ok-ended_at.was
    (c.in_ok-numbers.at + n.length - c.in_ok-numbers.at) (omega arith)
    (of-bytes n cells c.map-board.result _ _ _ read.board (c.map-board.ensures.items.long ∙ sym c.numbers_in.array_long)
    (λ i inside. let call = c.map-board.ensures.items.at i 0 0 (omega (arith, c.numbers_in.array_long)) in search rules)
    c.read_plan.ensures))
