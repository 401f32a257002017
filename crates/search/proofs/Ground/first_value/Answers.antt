-- `search::Ground::first_value` meets its contract: infinity above the ceiling, and else the successor's own f, inherited from where the
-- definition says so. Assumes nothing.
use Prim.Native.Nat.{ℕ}
use mathlib.Core.Path.{sym, ◌∙◌, ap}
use Rattle.search.specs.Row.{first_stored}
use Rattle.search.proofs.Ground.first_value.Goals as goal

pub returns : goal.returns
returns c =
    let a = c.args in
    rw (sym c.above_ceiling.ensures ∙ c.if-above_ceiling.false)
    (c.first_stored.ensures ∙ ap (λ (own : ℕ). first_stored a.f a.stored own) c.value.ensures)

pub returns-then-above_ceiling : goal.returns-then-above_ceiling
returns-then-above_ceiling c =
    rw (sym c.above_ceiling.ensures ∙ c.if-above_ceiling.true)
