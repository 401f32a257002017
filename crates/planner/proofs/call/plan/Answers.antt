-- `planner::call::plan` meets its contract: each way out has the tests that it passed. `in_ok-shape` is where tests 1 to 4 gave the shape,
-- `in_ok-terms` where 5 to 7 and 15 gave the terms. Assumes nothing.
use mathlib.Core.Path.{ap, sym, ◌∙◌}
use Rattle.std.proofs.lemmas.Result.{err_from_is_err_and}
use Rattle.board.specs.Parity.{is_odd}
use Rattle.planner.proofs.code.Testing.{told, measured-back, sound-board, terms_kept, refused-board, refused-limit, of-terms}
use Rattle.planner.proofs.code.Testing.{ceiling-low, refused-short, refused-odd, all-passed, small-job, room-passed}
use Rattle.planner.proofs.code.Calling.{left-within, search_settles}
use Rattle.planner.proofs.call.plan.Goals as goal

pub returns-in_err-shape : goal.returns-in_err-shape
returns-in_err-shape c =
    let p = err_from_is_err_and c.from_residual.result c.from_residual.ensures.1 in
    rw (p.1, p.2) (refused-board _ _ (sym c.tested.ensures ∙ c.in_err-shape.was))

pub returns-in_err-terms : goal.returns-in_err-terms
returns-in_err-terms c =
    let p = err_from_is_err_and c.from_residual-in_err-terms.result c.from_residual-in_err-terms.ensures.1 in
    rw (p.1, p.2)
    (refused-limit _ _ _ _ (sym c.tested.ensures ∙ c.in_ok-shape.was) _ _ _ _ _ _ _
    (sym (measured-back _ _ _ _ c.ranges.ceiling c.measured.ensures) ∙ c.in_err-terms.was))

pub short_buffer-requires : goal.short_buffer-requires
short_buffer-requires c =
    ceiling-low _ _ (sound-board _ _ _ _ (sym c.tested.ensures ∙ c.in_ok-shape.was)) _ _
    (terms_kept _ _ _ _ _ (sym (measured-back _ _ _ _ c.ranges.ceiling c.measured.ensures) ∙ c.in_ok-terms.was))

pub returns-then-short_buffer : goal.returns-then-short_buffer
returns-then-short_buffer c =
    let shape = sym c.tested.ensures ∙ c.in_ok-shape.was in
    let terms = sym (measured-back _ _ _ _ c.ranges.ceiling c.measured.ensures) ∙ c.in_ok-terms.was in
    of-terms _ _ _ _ shape _ _ _ _ _ _ _ _ _ _ terms
    (refused-short _ _ (sound-board _ _ _ _ shape) _ _ _ _ (terms_kept _ _ _ _ _ terms)
    (told c.short_buffer.ensures c.if-short_buffer.true))

pub hold-start-requires-clause-good_shape : goal.hold-start-requires-clause-good_shape
hold-start-requires-clause-good_shape c =
    (sound-board _ _ _ _ (sym c.tested.ensures ∙ c.in_ok-shape.was)).0

pub hold-start-requires-clause-board : goal.hold-start-requires-clause-board
hold-start-requires-clause-board c =
    (sound-board _ _ _ _ (sym c.tested.ensures ∙ c.in_ok-shape.was)).1

pub returns-then-is_odd : goal.returns-then-is_odd
returns-then-is_odd c =
    let shape = sym c.tested.ensures ∙ c.in_ok-shape.was in
    let terms = sym (measured-back _ _ _ _ c.ranges.ceiling c.measured.ensures) ∙ c.in_ok-terms.was in
    of-terms _ _ _ _ shape _ _ _ _ _ _ _ _ _ _ terms
    (refused-odd _ _ (sound-board _ _ _ _ shape) _ _ _ _ (terms_kept _ _ _ _ _ terms)
    (told c.short_buffer.ensures c.if-short_buffer.false)
    (ap (is_odd c.in_ok-shape.shape) (sym c.hold-start.ensures.same) ∙ told c.is_odd.ensures c.if-is_odd.true))

pub run-requires-clause-small_job : goal.run-requires-clause-small_job
run-requires-clause-small_job c = (
  small-job _ _ (sound-board _ _ _ _ (sym c.tested.ensures ∙ c.in_ok-shape.was)) _ _
      (terms_kept _ _ _ _ _ (sym (measured-back _ _ _ _ c.ranges.ceiling c.measured.ensures) ∙ c.in_ok-terms.was)),
  c.hold-start.ensures.holds,
)

pub run-requires-clause-room : goal.run-requires-clause-room
run-requires-clause-room c =
    room-passed _ _ (sound-board _ _ _ _ (sym c.tested.ensures ∙ c.in_ok-shape.was)) _ _ _ _
    (terms_kept _ _ _ _ _ (sym (measured-back _ _ _ _ c.ranges.ceiling c.measured.ensures) ∙ c.in_ok-terms.was))
    (told c.short_buffer.ensures c.if-short_buffer.false)

pub answer_of-requires : goal.answer_of-requires
answer_of-requires c =
    left-within _ _ _ _ _ _ _ _ c.run.ensures

pub returns : goal.returns
returns c =
    let shape = sym c.tested.ensures ∙ c.in_ok-shape.was in
    let terms = sym (measured-back _ _ _ _ c.ranges.ceiling c.measured.ensures) ∙ c.in_ok-terms.was in
    let same = c.hold-start.ensures.same in
    of-terms _ _ _ _ shape _ _ _ _ _ _ _ _ _ _ terms
    (search_settles _ _ _ _ _ _ _ _ _ _ _
    (all-passed _ _ (sound-board _ _ _ _ shape) _ _ _ _ (terms_kept _ _ _ _ _ terms)
    (told c.short_buffer.ensures c.if-short_buffer.false)
    (ap (is_odd c.in_ok-shape.shape) (sym same) ∙ told c.is_odd.ensures c.if-is_odd.false))
    same c.run.ensures c.answer_of.ensures)
