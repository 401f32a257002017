-- `write::write` meets its contract: each way out by the test that it comes by. Assumes nothing.
use native.Mathlib.Omega.{arith}
use mathlib.Core.Path.{◌≡◌, sym, ◌∙◌}
use Rattle.std.specs.Prelude.{Ok}
use Rattle.std.proofs.lemmas.Result.{err_from_is_err_and}
use Rattle.board.specs.Tests.{NoneHolds}
use Rattle.board.specs.Faults.{fault_tests}
use Rattle.board.proofs.Laws.{none-faulty}
use Rattle.planner.specs.Limits.{measured}
use Rattle.planner.proofs.code.Testing.{measured-back}
use Rattle.records.proofs.code.Testing.{refused-board, refused_limit, says, Says, length-refused, move-refused, goal-refused}
use Rattle.records.proofs.code.Testing.{ceiling_few, short_record, room-refused, recorded}
use Rattle.records.proofs.write.write.Goals.{In_ok-tested, In_ok-terms, In_ok-goal}
use Rattle.records.proofs.write.write.Goals as goal

sound : (c : In_ok-tested) → NoneHolds (fault_tests c.args.width c.args.height c.args.board.now)
sound c = none-faulty _ _ _ _ (sym c.tested.ensures ∙ c.in_ok-tested.was)

within : (c : In_ok-terms) → measured c.args.ceiling c.args.visits c.args.p c.args.q ≡ Ok c.in_ok-terms.terms
within c = sym (measured-back _ _ _ _ c.ranges.ceiling c.measured.ensures) ∙ c.in_ok-terms.was

ends : (c : In_ok-goal) → Says c.args.width c.args.height c.args.board.now c.args.moves.now (Ok c.in_ok-goal.goal)
ends c = says _ _ _ _ _ (sym c.in_ok-goal.was ∙ c.play.ensures.answers)

pub returns-in_err-tested : goal.returns-in_err-tested
returns-in_err-tested c =
    let p = err_from_is_err_and c.from_residual.result c.from_residual.ensures.1 in
    rw (p.1, p.2) (refused-board _ _ _ (sym c.tested.ensures ∙ c.in_err-tested.was))

pub returns-in_err-terms : goal.returns-in_err-terms
returns-in_err-terms c =
    let p = err_from_is_err_and c.from_residual-in_err-terms.result c.from_residual-in_err-terms.ensures.1 in
    let answer = measured-back _ _ _ _ c.ranges.ceiling c.measured.ensures in
    rw (p.1, p.2) (refused_limit _ _ (sound (goal.at.returns-in_err-terms c).In_ok-tested) _ (sym answer ∙ c.in_err-terms.was))

pub returns-then-terms-moves : goal.returns-then-terms-moves
returns-then-terms-moves c =
    let at = goal.at.returns-then-terms-moves c in
    length-refused _ _ (sound at.In_ok-tested) _ (within at.In_ok-terms) c.if-terms-moves.true

pub returns-in_err-goal : goal.returns-in_err-goal
returns-in_err-goal c =
    let p = err_from_is_err_and c.from_residual-in_err-goal.result c.from_residual-in_err-goal.ensures.1 in
    let at = goal.at.returns-in_err-goal c in
    rw (p.1, p.2)
    (move-refused _ _ (sound at.In_ok-tested) _ (within at.In_ok-terms) c.if-terms-moves.false
    (says _ _ _ _ _ (sym c.in_err-goal.was ∙ c.play.ensures.answers)))

pub returns-then-not-goal : goal.returns-then-not-goal
returns-then-not-goal c =
    let at = goal.at.returns-then-not-goal c in
    goal-refused _ _ (sound at.In_ok-tested) _ (within at.In_ok-terms) c.if-terms-moves.false (ends at.In_ok-goal) c.if-not-goal.true

pub overflow_cast-plan : goal.overflow_cast-plan
overflow_cast-plan c =
    let at = goal.at.overflow_cast-plan c in
    omega (arith, ceiling_few _ c.args.out.now (sound at.In_ok-tested) _ (within at.In_ok-terms) c.if-terms-moves.false)

pub overflow_cast-plan-2 : goal.overflow_cast-plan-2
overflow_cast-plan-2 c =
    let at = goal.at.overflow_cast-plan-2 c in
    omega (arith, ceiling_few _ c.args.out.now (sound at.In_ok-tested) _ (within at.In_ok-terms) c.if-terms-moves.false)

pub invariant_of-record : goal.invariant_of-record
invariant_of-record c =
    let at = goal.at.invariant_of-record c in
    record { short = short_record _ c.args.out.now (sound at.In_ok-tested) _ (within at.In_ok-terms) c.if-terms-moves.false }

pub returns-then-out-len : goal.returns-then-out-len
returns-then-out-len c =
    let at = goal.at.returns-then-out-len c in
    room-refused _ _ (sound at.In_ok-tested) _ (within at.In_ok-terms) c.if-terms-moves.false (ends at.In_ok-goal) c.if-not-goal.false
    (rw (← c.len.ensures) c.if-out-len.true)

pub returns : goal.returns
returns c =
    let at = goal.at.returns c in
    recorded _ _ (sound at.In_ok-tested) _ (within at.In_ok-terms) c.if-terms-moves.false (ends at.In_ok-goal) c.if-not-goal.false
    (rw (← c.len.ensures) c.if-out-len.false) c.put.ensures
