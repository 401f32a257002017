-- `search::row::picked` meets its contract: each of its four ways out is a case of the definition. Assumes nothing.
use Prim.Native.Nat.{ℕ, min}
use mathlib.Core.Path.{ap, ◌∙◌}
use native.Mathlib.Omega.{arith}
use lib.ListN.{get_or}
use Rattle.search.proofs.code.Picking.{picks-row, least-row, picks_first, picks_second, picks_third, picks_fourth}
use Rattle.search.proofs.row.picked.Goals as goal

pub returns-then-row-least : goal.returns-then-row-least
returns-then-row-least c =
    let pre = c.requires in
    picks-row _ pre.row_length _
    (picks_first _ _ _ _ _ _ (least-row _ pre.row_length _ pre.least_value) c.if-row-least.true (omega arith)
    (c.min-second.ensures ∙ ap (min _) c.min.ensures))

pub returns-then-row-least-2 : goal.returns-then-row-least-2
returns-then-row-least-2 c =
    let pre = c.requires in
    picks-row _ pre.row_length _
    (picks_second _ _ _ _ _ _ (least-row _ pre.row_length _ pre.least_value) c.if-row-least.false c.if-row-least-2.true (omega arith)
    (c.min-second-then-row-least-2.ensures ∙ ap (min _) c.min-then-row-least-2.ensures))

pub returns-then-row-least-3 : goal.returns-then-row-least-3
returns-then-row-least-3 c =
    let pre = c.requires in
    picks-row _ pre.row_length _
    (picks_third _ _ _ _ _ _ (least-row _ pre.row_length _ pre.least_value) c.if-row-least.false c.if-row-least-2.false
    c.if-row-least-3.true (omega arith)
    (c.min-second-then-row-least-3.ensures ∙ ap (λ (x : ℕ). min x (get_or c.args.row.now 3 0)) c.min-ab.ensures))

pub returns : goal.returns
returns c =
    let pre = c.requires in
    picks-row _ pre.row_length _
    (picks_fourth _ _ _ _ _ _ (least-row _ pre.row_length _ pre.least_value) c.if-row-least.false c.if-row-least-2.false
    c.if-row-least-3.false (omega arith)
    (c.min-second-2.ensures ∙ ap (λ (x : ℕ). min x (get_or c.args.row.now 2 0)) c.min-ab.ensures))
