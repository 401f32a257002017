-- `read::numbers_in` meets its contract: each number where the one before it ends, or the first fault. Assumes nothing.
use Prim.Native.Nat.{ℕ, ◌*◌, ◌≤◌}
use native.Mathlib.Omega.{arith}
use mathlib.Core.Path.{◌≡◌, sym, ap, ◌∙◌}
use mathlib.Core.List.{List}
use lib.ListN.{length, take, drop}
use lib.Seq.{take_at, length-take-le}
use Rattle.std.specs.Prelude.{Result}
use Rattle.std.proofs.lemmas.Result.{err_from_is_err_and}
use Rattle.records.specs.declared.ReadRefusal.{ReadRefusal}
use Rattle.records.specs.Scan.{found, side_at, numbers_at}
use Rattle.records.specs.Read.{begun, numbers_of, length_on, plan_on, cells_on, height_on, numbers_in, filled}
use Rattle.records.proofs.theory.Scanning.{side_means, numbers-count}
use Rattle.records.proofs.code.Reading.{few_sides}
use Rattle.records.proofs.read.numbers_in.Goals.{In_ok-height}
use Rattle.records.proofs.read.numbers_in.Goals as goal

-- where both sides were taken
module _ (c : In_ok-height) where
  wide : side_at c.args.bytes.now 0 ≡ found c.in_ok-width.width c.in_ok-width.at
  wide = sym c.side_at.ensures ∙ c.in_ok-width.was

  high : side_at c.args.bytes.now c.in_ok-width.at ≡ found c.in_ok-height.height c.in_ok-height.at
  high = sym c.side_at-2.ensures ∙ c.in_ok-height.was

  -- the cells are no more than the buffer holds
  few : c.in_ok-width.width * c.in_ok-height.height ≤ 16
  few = few_sides (side_means _ _ _ _ wide).1 (side_means _ _ _ _ high).1

  -- so many were asked for
  asked : (new : List ℕ) (r told : Result ℕ ReadRefusal)
      → numbers_at (length (take (c.in_ok-width.width * c.in_ok-height.height) c.args.cells.now)) c.args.bytes.now c.in_ok-height.at
      ≡ filled new r → r ≡ told
      → numbers_at (c.in_ok-width.width * c.in_ok-height.height) c.args.bytes.now c.in_ok-height.at ≡ filled new told
  asked new r told e is =
      ap (λ k. numbers_at k c.args.bytes.now c.in_ok-height.at)
      (sym (length-take-le _ c.args.cells.now (omega (arith, few, c.told-cells))))
      ∙ e
      ∙ ap (filled new) is

pub returns-in_err-width : goal.returns-in_err-width
unfolding numbers_in
returns-in_err-width c =
    let p = err_from_is_err_and c.from_residual.result c.from_residual.ensures.1 in
    rw (p.1, p.2, sym c.side_at.ensures ∙ c.in_err-width.was)

pub returns-in_err-height : goal.returns-in_err-height
unfolding numbers_in height_on
returns-in_err-height c =
    let p = err_from_is_err_and c.from_residual-in_err-height.result c.from_residual-in_err-height.ensures.1 in
    rw (p.1, p.2, sym c.side_at.ensures ∙ c.in_ok-width.was, sym c.side_at-2.ensures ∙ c.in_err-height.was)

pub overflow_mul-n : goal.overflow_mul-n
overflow_mul-n c =
    omega (arith, few (goal.at.overflow_mul-n c).In_ok-height)

pub slice_bounds-numbers_at-end : goal.slice_bounds-numbers_at-end
slice_bounds-numbers_at-end c =
    few (goal.at.slice_bounds-numbers_at-end c).In_ok-height

pub returns-in_err-at : goal.returns-in_err-at
unfolding numbers_in height_on cells_on
returns-in_err-at c =
    let p = err_from_is_err_and c.from_residual-in_err-at.result c.from_residual-in_err-at.ensures.1 in
    let sides = (goal.at.returns-in_err-at c).In_ok-height in
    rw (p.1, p.2, wide sides, high sides, asked sides _ _ _ c.numbers_at.ensures c.in_err-at.was)

pub returns-in_err-at-2 : goal.returns-in_err-at-2
unfolding numbers_in height_on cells_on plan_on
returns-in_err-at-2 c =
    let p = err_from_is_err_and c.from_residual-in_err-at-2.result c.from_residual-in_err-at-2.ensures.1 in
    let sides = (goal.at.returns-in_err-at-2 c).In_ok-height in
    let plan = c.numbers_at-2.ensures ∙ ap (filled _) c.in_err-at-2.was in
    rw (p.1, p.2, wide sides, high sides, asked sides _ _ _ c.numbers_at.ensures c.in_ok-at.was, plan)

pub returns-in_err-length : goal.returns-in_err-length
unfolding numbers_in height_on cells_on plan_on length_on
returns-in_err-length c =
    let p = err_from_is_err_and c.from_residual-in_err-length.result c.from_residual-in_err-length.ensures.1 in
    let sides = (goal.at.returns-in_err-length c).In_ok-height in
    let plan = c.numbers_at-2.ensures ∙ ap (filled _) c.in_ok-at-2.was in
    let length = sym c.length_at.ensures ∙ c.in_err-length.was in
    rw (p.1, p.2, wide sides, high sides, asked sides _ _ _ c.numbers_at.ensures c.in_ok-at.was, plan, length)

pub returns : goal.returns
unfolding numbers_in height_on cells_on plan_on length_on
returns c =
    let width = c.in_ok-width.width in
    let height = c.in_ok-height.height in
    let sides = (goal.at.returns c).In_ok-height in
    let cells = asked sides _ _ _ c.numbers_at.ensures c.in_ok-at.was in
    let plan = c.numbers_at-2.ensures ∙ ap (filled _) c.in_ok-at-2.was in
    let length = sym c.length_at.ensures ∙ c.in_ok-length.was in
    let numbers = numbers_of width height c.numbers_at-2.new.numbers c.in_ok-length.length in
    rw (wide sides, high sides, cells, plan, length)
    (ap (λ (l : List ℕ). begun numbers l c.in_ok-length.at)
    (sym (take_at c.numbers_at.new.numbers (drop (width * height) c.args.cells.now) (width * height) (numbers-count _ _ _ _ _ cells))))
