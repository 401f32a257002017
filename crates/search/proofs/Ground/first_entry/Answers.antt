-- `search::Ground::first_entry` meets its contract: a way that leads nowhere is no successor's, and the change along another tells whether
-- the move's board is one step nearer or one farther. Assumes nothing.
use Prim.Native.Nat.{ℕ, suc, ◌+◌}
use mathlib.Core.Path.{◌≡◌, sym, ap, ap₂, ◌∙◌}
use mathlib.Core.Bool.{true, false, cond, not, ◌&&◌}
use mathlib.Core.List.{List}
use native.Mathlib.Omega.{arith}
use lib.Dec.{eqb}
use Rattle.board.specs.declared.Shape.{Shape}
use Rattle.board.specs.Board.{empty_cell}
use Rattle.board.specs.Moves.{stays_on, leads_to, legal, after}
use Rattle.board.specs.Distance.{distance}
use Rattle.board.proofs.code.Holding.{empty-below}
use Rattle.board.proofs.Laws.{way_leads, way-none, way-inside, change_by_cell, leads_nearer, leads_farther}
use Rattle.search.specs.declared.Job.{Job}
use Rattle.search.specs.Space.{Space, boards}
use Rattle.search.specs.Row.{infinity, takes_back, first_stored, above_ceiling}
use Rattle.search.specs.Search.{static, is_successor, first_entry}
use Rattle.search.specs.Run.{value_at, cut_at, first_at}
use Rattle.search.specs.Ground.{job_of}
use Rattle.search.proofs.code.BoardSpace.{passes}
use Rattle.search.proofs.Ground.first_entry.Goals as goal

module _ (S : Space) (f : ℕ → S.State → ℕ) (ceiling g : ℕ) (s : S.State) (last stored m : ℕ) where
  no-successor : S.may s m && not (takes_back last m) ≡ false → infinity ≡ first_entry S f ceiling g s last stored m
  unfolding first_entry is_successor
  no-successor e = rw e

  successor : S.may s m ≡ true → takes_back last m ≡ false
      → cond (above_ceiling ceiling (suc g) (S.dist (S.makes s m))) infinity (first_stored (f g s) stored (f (suc g) (S.makes s m)))
      ≡ first_entry S f ceiling g s last stored m
  unfolding first_entry is_successor
  successor e back = rw (e, back)

-- a move's test by the empty cell e
module _ (s : Shape) (b : List ℕ) (e last m : ℕ) (is : e ≡ empty_cell b) where
  legal-by-cell : stays_on s e m ≡ true → legal s b m ≡ true
  unfolding legal
  legal-by-cell on = ap (λ (k : ℕ). stays_on s k m) (sym is) ∙ on

  none-by-cell : stays_on s e m && not (eqb (last + m) 3) ≡ false → legal s b m && not (takes_back last m) ≡ false
  unfolding legal
  none-by-cell off = ap (λ (k : ℕ). stays_on s k m && not (eqb (last + m) 3)) (sym is) ∙ off

  to-by-cell : (t : ℕ) → t ≡ leads_to s e m → t ≡ leads_to s (empty_cell b) m
  to-by-cell t to = to ∙ ap (λ (k : ℕ). leads_to s k m) is

-- a successor's value by numbers
first-at : (job : Job) (b : List ℕ) (g stored h k m : ℕ) → h ≡ distance job.shape b → k ≡ distance job.shape (after job.shape b m)
    → first_at job g h stored k
    ≡ cut_at job (suc g) (distance job.shape (after job.shape b m))
    (first_stored (static (boards job.shape) job.weight g b) stored
    (static (boards job.shape) job.weight (suc g) (after job.shape b m)))
unfolding static
first-at job b g stored h k m is leads =
    ap₂ (λ (x y : ℕ). cut_at job (suc g) y (first_stored (value_at job g x) stored (value_at job (suc g) y))) is leads

pub way-t-requires-clause-e_bound : goal.way-t-requires-clause-e_bound
way-t-requires-clause-e_bound c =
    empty-below _ _ c.requires.kept.holds

pub returns-then-t-e : goal.returns-then-t-e
returns-then-t-e c =
    let holds = c.requires.kept.holds in
    no-successor _ _ _ _ _ _ _ _
    (none-by-cell _ _ _ _ _ holds.empty (way-none _ _ _ _ holds.shape _ c.way-t.ensures c.if-t-e.true))

pub change_to-requires-clause-t_bound : goal.change_to-requires-clause-t_bound
change_to-requires-clause-t_bound c =
    let holds = c.requires.kept.holds in
    let inside = way-inside c.args.self.now.cabinet.shape _ c.args.last c.args.m holds.shape (empty-below _ _ holds) in
    omega (arith, inside, c.way-t.ensures)

pub returns-then-change_to-lt0 : goal.returns-then-change_to-lt0
returns-then-change_to-lt0 c =
    let a = c.args in
    let empty = c.requires.kept.holds.empty in
    let leads = way_leads _ _ _ _ _ c.way-t.ensures c.if-t-e.false in
    let allowed = legal-by-cell _ _ _ a.last _ empty leads.stays in
    let is = c.change_to.ensures ∙ change_by_cell _ _ a.m _ (to-by-cell _ _ _ a.last _ empty _ leads.to) in
    let step = leads_nearer _ _ _ c.requires.kept _ (passes allowed) _ is c.if-change_to-lt0.true in
    c.requires.closer_value.0
    ∙ first-at (job_of a.self.now) _ _ _ _ _ a.m c.requires.kept.full (omega arith)
    ∙ successor _ _ _ _ _ _ _ _ allowed leads.on

pub returns : goal.returns
returns c =
    let a = c.args in
    let empty = c.requires.kept.holds.empty in
    let leads = way_leads _ _ _ _ _ c.way-t.ensures c.if-t-e.false in
    let allowed = legal-by-cell _ _ _ a.last _ empty leads.stays in
    let is = c.change_to.ensures ∙ change_by_cell _ _ a.m _ (to-by-cell _ _ _ a.last _ empty _ leads.to) in
    let step = leads_farther _ _ _ c.requires.kept _ (passes allowed) _ is c.if-change_to-lt0.false in
    c.requires.closer_value.1
    ∙ first-at (job_of a.self.now) _ _ _ _ _ a.m c.requires.kept.full (omega arith)
    ∙ successor _ _ _ _ _ _ _ _ allowed leads.on
