-- `planner::limits::measured` meets its contract: each way out has the tests that it passed. The ceiling is handed on through its bits,
-- which changes nothing. Assumes nothing.
use mathlib.Core.Path.{ap, ◌∙◌}
use mir.Syntax.{w32}
use mir.ValLaws.{to_z-of_z}
use Rattle.planner.specs.Limits.{ceiling_of}
use Rattle.planner.proofs.code.Testing.{told, read_back_lem, outside_5, outside_6, outside_7, outside_15, within_all}
use Rattle.planner.proofs.limits.measured.Goals as goal

pub returns-then-bad_ceiling : goal.returns-then-bad_ceiling
returns-then-bad_ceiling c =
    outside_5 _ _ _ _ (told (read_back_lem c.ranges.ceiling c.bad_ceiling.ensures) c.if-bad_ceiling.true)

pub returns-then-bad_budget : goal.returns-then-bad_budget
returns-then-bad_budget c =
    outside_6 _ _ _ _ (told (read_back_lem c.ranges.ceiling c.bad_ceiling.ensures) c.if-bad_ceiling.false)
    (told c.bad_budget.ensures c.if-bad_budget.true)

pub returns-then-bad_weight : goal.returns-then-bad_weight
returns-then-bad_weight c =
    outside_7 _ _ _ _ (told (read_back_lem c.ranges.ceiling c.bad_ceiling.ensures) c.if-bad_ceiling.false)
    (told c.bad_budget.ensures c.if-bad_budget.false) (told c.bad_weight.ensures c.if-bad_weight.true)

pub shares_divisor-requires : goal.shares_divisor-requires
shares_divisor-requires c =
    told c.bad_weight.ensures c.if-bad_weight.false

pub returns-then-shares_divisor : goal.returns-then-shares_divisor
returns-then-shares_divisor c =
    outside_15 _ _ _ _ (told (read_back_lem c.ranges.ceiling c.bad_ceiling.ensures) c.if-bad_ceiling.false)
    (told c.bad_budget.ensures c.if-bad_budget.false) (told c.bad_weight.ensures c.if-bad_weight.false)
    (told c.shares_divisor.ensures c.if-shares_divisor.true)

pub ceiling_of-requires : goal.ceiling_of-requires
ceiling_of-requires c =
    told c.bad_ceiling.ensures c.if-bad_ceiling.false

pub returns : goal.returns
returns c =
    let fits = c.ranges.ceiling in
    within_all _ _ _ _ _ (c.ceiling_of.ensures ∙ ap ceiling_of (to_z-of_z w32 _ fits))
    (told (read_back_lem fits c.bad_ceiling.ensures) c.if-bad_ceiling.false)
    (told c.bad_budget.ensures c.if-bad_budget.false) (told c.bad_weight.ensures c.if-bad_weight.false)
    (told c.shares_divisor.ensures c.if-shares_divisor.false)
