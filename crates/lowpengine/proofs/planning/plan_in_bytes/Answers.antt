-- `lowpengine::planning::plan_in_bytes` meets its contract: the planner's answer for the table's numbers (OwnTable), packed, and the
-- bytes cleared where its numbers stand. Assumes nothing.
use Rattle.std.proofs.Common.{rules, ℕ, ◌≡◌, ◌∙◌, ◌≤◌, ◌*◌, ◌/◌, min, Bool, List, length, take, ℤ, to_z, of_z, w32, refl, sym, arith}
use mathlib.Core.Path.{ap₂}
use lib.Seq.{length-take-le}
use mir.Val.{SFits}
use mir.ValLaws.{to_z-of_z}
use Rattle.planner.specs.Answer.{Answer}
use Rattle.planner.specs.Answer.{answered, called, search_ran, Settles}
use Rattle.lowpengine.specs.Bytes.{AllBytes, numbers, numbers_used}
use Rattle.lowpengine.proofs.code.OwnTable.{Answered, by_own-table, fields-apart, bytes-within, all-given}
use Rattle.lowpengine.proofs.planning.plan_in_bytes.Goals as goal

-- once the planner has answered, the ceiling z handed on and `lent` numbers of the own table lent
module _ (w h : ℕ) (b : List ℕ) (z : ℤ) (budget p q : ℕ) (moves t own : List ℕ) (lent : ℕ) (r : Answer) (moves' own' : List ℕ)
    (fits : SFits w32 z) (few : lent ≡ min (length t / 2) 484) (long : length own ≡ 484)
    (settled : Settles (answered (called w h b (to_z w32 (of_z w32 z)) budget p q moves (take lent own))) r moves' own') where
  -- the answer is that for the table's numbers
  planned : Answered (called w h b z budget p q moves (numbers t)) r moves'
  planned = by_own-table w h b z _ budget p q moves t own lent r moves' own' (to_z-of_z w32 z fits) few long settled

  -- how many numbers are cleared, and that their bytes are the table's
  module _ (ran : Bool) (k : ℕ) (same : ran ≡ search_ran r) (is : k ≡ numbers_used ran (to_z w32 (of_z w32 z))) where
    used : k ≡ numbers_used (search_ran r) z
    used = is ∙ ap₂ numbers_used same (to_z-of_z w32 z fits)

    within : 2 * k ≤ length t
    within = bytes-within w h b z budget p q moves t r moves' planned k used

pub overflow_mul-used : goal.overflow_mul-used
overflow_mul-used c =
    omega (
      arith,
      within _ _ _ _ _ _ _ _ c.args.table.now _ _ _ _ _ c.ranges.ceiling c.min-lent.ensures refl c.plan-answer.ensures _ _
          c.search_ran.ensures c.numbers_used-used.ensures,
    )

pub slice_bounds-fill-end : goal.slice_bounds-fill-end
slice_bounds-fill-end c =
    omega (
      arith,
      within _ _ _ _ _ _ _ _ c.args.table.now _ _ _ _ _ c.ranges.ceiling c.min-lent.ensures refl c.plan-answer.ensures _ _
          c.search_ran.ensures c.numbers_used-used.ensures,
    )

pub slice_bounds-fill-end-2 : goal.slice_bounds-fill-end-2
slice_bounds-fill-end-2 c =
    sym
    (length-take-le _ _
    (omega (
      arith,
      within _ _ _ _ _ _ _ _ c.args.table.now _ _ _ _ _ c.ranges.ceiling c.min-lent.ensures refl c.plan-answer.ensures _ _
          c.search_ran.ensures c.numbers_used-used.ensures,
    )))

pub packed_plan-requires : goal.packed_plan-requires
packed_plan-requires c =
    fields-apart _ _ _ _ _ _ _ _ _ _ _
    (planned _ _ _ _ _ _ _ _ c.args.table.now _ _ _ _ _ c.ranges.ceiling c.min-lent.ensures refl c.plan-answer.ensures)

pub returns : goal.returns
returns c =
    let bytes : AllBytes c.args.table.now = λ i. search rules in
    all-given _ _ _ _ _ _ _ _ _ _ _
    (planned _ _ _ _ _ _ _ _ c.args.table.now _ _ _ _ _ c.ranges.ceiling c.min-lent.ensures refl c.plan-answer.ensures) _
    (used _ _ _ _ _ _ _ _ c.args.table.now _ _ _ _ _ c.ranges.ceiling c.min-lent.ensures refl c.plan-answer.ensures _ _
    c.search_ran.ensures c.numbers_used-used.ensures)
    bytes _ _ c.packed_plan.ensures (c.fill.ensures.after (λ y e. e))
