-- The cycle {visit, work} meets its contracts: each way out is a case of the definition (`Visiting.antt`, `Working.antt`). Assumes nothing.
use Rattle.std.proofs.Common.{◌≡◌, ◌∙◌, ◌<◌, ℕ, true, false, sym, ap, refl, length, arith}
use native.Mathlib.Nat.{le_of_lt}
use borrow.Author.Tests.{eq-eqb, ne_eqb, not-true, not-false}
use Rattle.board.specs.Board.{is_goal}
use Rattle.board.specs.Held.{held}
use Rattle.board.specs.Change.{Kept}
use Rattle.board.specs.declared.Shape.{Shape}
use Rattle.board.specs.declared.Position.{Position}
use Rattle.board.proofs.Laws.{kept-goal}
use Rattle.search.specs.declared.Choice.{Choice}
use Rattle.search.specs.declared.visits.End.{End}
use Rattle.search.specs.Row.{best}
use Rattle.search.specs.Run.{ended}
use Rattle.search.specs.Ground.{job_of}
use Rattle.search.proofs.code.TableRows.{lent-row, room-kept, row_fits}
use Rattle.search.proofs.code.Outcomes.{ran-told}
use Rattle.search.proofs.code.Visiting.{starts_open, none_left, at-goal, at-ceiling, works}
use Rattle.search.proofs.code.Working.{picks-lent, picked_move, picked_legal, none_made, begins, as_made}
use Rattle.search.proofs.code.Working.{found-ends, spent_ends, value-less, last-ends, value-goes-on}
use Rattle.search.proofs.Ground.+visit_work.Goals as goal

-- ---- visit: the goal is known by distance 0

not-0 : (h : ℕ) → (h ≡ 0 → ⊥) → 0 < h
not-0 h d = omega arith

at_zero : (s : Shape) (p : Position) (h : ℕ) → Kept s p h → h ≡ 0 → is_goal s (held s p) ≡ true
at_zero s p h kept e = kept-goal s p h kept ∙ eq-eqb _ _ e

away : (s : Shape) (p : Position) (h : ℕ) → Kept s p h → (h ≡ 0 → ⊥) → is_goal s (held s p) ≡ false
away s p h kept e = kept-goal s p h kept ∙ ne_eqb _ _ e

pub visit-returns-then-left-eq0 : goal.visit-returns-then-left-eq0
visit-returns-then-left-eq0 t c = none_left _ _ _ _ _ _ _ _ _ c.if-left-eq0.true

pub visit-returns-then-at-eq0 : goal.visit-returns-then-at-eq0
visit-returns-then-at-eq0 t c =
    at-goal _ _ _ _ _ _ _ _ _ c.if-left-eq0.false _ (omega arith) (at_zero _ _ _ c.requires.kept c.if-at-eq0.true)

pub visit-returns-then-g-self : goal.visit-returns-then-g-self
visit-returns-then-g-self t c =
    at-ceiling _ _ _ _ _ _ _ _ _ c.if-left-eq0.false _ (omega arith) (away _ _ _ c.requires.kept c.if-at-eq0.false) c.if-g-self.true

pub visit-work-requires : goal.visit-work-requires
visit-work-requires t c =
    let pre = c.requires in
    let fits = row_fits pre.room pre.last_bound.1 in
    let below : c.args.g < c.args.self.now.ceiling = omega arith in
    let is_open = starts_open (job_of c.args.self.now) _ _ _ _ _ _ fits c.first_row.ensures pre.kept.holds.shape in
    let room = room-kept pre.room c.first_row.auto.table refl in
    (omega arith, (pre.kept, (below, (room, is_open))))

pub visit-returns : goal.visit-returns
visit-returns t c =
    let pre = c.requires in
    works _ _ _ _ _ _ _ _ _ c.if-left-eq0.false _ (omega arith) (away _ _ _ pre.kept c.if-at-eq0.false) (omega arith)
    (row_fits pre.room pre.last_bound.1) _ c.first_row.ensures c.work.ensures

-- ---- work

pub work-returns-then-stops_at : goal.work-returns-then-stops_at
work-returns-then-stops_at t c =
    none_made _ _ _ _ _ _ _ _ (ap (λ (x : Choice). x.value) (c.best_of-best.ensures ∙ ap best (lent-row _ c.args.g)))
    (not-true _ (sym c.stops_at.ensures ∙ c.if-stops_at.true))

pub work-loop-moves-init : goal.work-loop-moves-init
work-loop-moves-init t c =
    begins _ _ _ _ _ _ _ _ (ap (λ (x : Choice). x.value) (c.best_of-best.ensures ∙ ap best (lent-row _ c.args.g)))
    (not-false _ (sym c.stops_at.ensures ∙ c.if-stops_at.false)) c.requires.is_open

pub work-go-place-requires-clause-legal_move : goal.work-go-place-requires-clause-legal_move
work-go-place-requires-clause-legal_move t c =
    picked_legal _ _ (picks-lent _ c.args.g _ c.picked-pick.ensures) _ _ _ c.loop-moves.invariant.is_open c.loop-moves.invariant.on

pub work-visit-end-requires : goal.work-visit-end-requires
work-visit-end-requires t c =
    let pre = c.requires in
    let small = picked_move _ _ c.picked-pick.ensures in
    let room = room-kept pre.room c.loop-moves.invariant.rows (ap length c.loop-moves.invariant.path) in
    (omega arith, (c.go-place.ensures.kept, ((omega arith, omega arith), room)))

-- the goal

pub work-overflow_cast-moves : goal.work-overflow_cast-moves
work-overflow_cast-moves t c = omega (arith, picked_move _ _ c.picked-pick.ensures)

pub work-returns-in-Found : goal.work-returns-in-Found
work-returns-in-Found t c =
    let goal = ap (λ (e : End). ended e c.visit-end.new.left) c.in-Found.is in
    ran-told goal
    (found-ends _ _ _ _ _ _ _ _ _ _ _ _ _ _ _
    (as_made _ _ _ _ _ _ _ c.loop-moves.invariant c.picked-pick.ensures c.go-place.ensures.position.same c.min-down.ensures
    c.visit-end.ensures c.visit-end.auto.table)
    _ _ goal (omega (arith, c.requires.room.path)))

-- a value: the last, or the turn goes on

pub work-returns-then-stops_at-2 : goal.work-returns-then-stops_at-2
work-returns-then-stops_at-2 t c =
    last-ends _ _ _ _ _ _ _ _ _ _ _ _ _ _ _
    (as_made _ _ _ _ _ _ _ c.loop-moves.invariant c.picked-pick.ensures c.go-place.ensures.position.same c.min-down.ensures
    c.visit-end.ensures c.visit-end.auto.table)
    _ _ (omega arith) (ap (λ (e : End). ended e c.visit-end.new.left) c.in-Value.is)
    (not-true _ (sym c.stops_at-in-Value.ensures ∙ c.if-stops_at-2.true)) _ c.min.ensures

pub work-overflow_add-table : goal.work-overflow_add-table
work-overflow_add-table t c = omega (arith, picked_move _ _ c.picked-pick.ensures, c.args.self.now.small.ceiling)

pub work-offset_bounds-table-g-in-Value : goal.work-offset_bounds-table-g-in-Value
work-offset_bounds-table-g-in-Value t c =
    omega (arith, picked_move _ _ c.picked-pick.ensures, c.args.self.now.small.ceiling)

pub work-bounds-table-g : goal.work-bounds-table-g
work-bounds-table-g t c =
    let fits = row_fits c.requires.room (le_of_lt c.requires.g_lt_ceiling) in
    omega (arith, picked_move _ _ c.picked-pick.ensures, fits, c.loop-moves.invariant.rows, c.visit-end.auto.table)

pub work-loop-moves-smaller : goal.work-loop-moves-smaller
work-loop-moves-smaller t c =
    value-less _ _ _ _ _ _ _ _ _ _ _ _ _ _ _
    (as_made _ _ _ _ _ _ _ c.loop-moves.invariant c.picked-pick.ensures c.go-place.ensures.position.same c.min-down.ensures
    c.visit-end.ensures c.visit-end.auto.table)
    _ _ (omega arith) (ap (λ (e : End). ended e c.visit-end.new.left) c.in-Value.is)

pub work-loop-moves-preserved : goal.work-loop-moves-preserved
work-loop-moves-preserved t c =
    value-goes-on _ _ _ _ _ _ _ _ _ _ _ _ _ _ _
    (as_made _ _ _ _ _ _ _ c.loop-moves.invariant c.picked-pick.ensures c.go-place.ensures.position.same c.min-down.ensures
    c.visit-end.ensures c.visit-end.auto.table)
    _ _ (omega arith) (ap (λ (e : End). ended e c.visit-end.new.left) c.in-Value.is)
    (not-false _ (sym c.stops_at-in-Value.ensures ∙ c.if-stops_at-2.false))

-- no visit was left

pub work-returns-in-Spent : goal.work-returns-in-Spent
work-returns-in-Spent t c =
    let none = ap (λ (e : End). ended e c.visit-end.new.left) c.in-Spent.is in
    ran-told none
    (spent_ends _ _ _ _ _ _ _ _ _ _ _ _ _ _ _
    (as_made _ _ _ _ _ _ _ c.loop-moves.invariant c.picked-pick.ensures c.go-place.ensures.position.same c.min-down.ensures
    c.visit-end.ensures c.visit-end.auto.table)
    none)
