-- `search::Ground::first_row` meets its contract: the two values are those of a successor one step nearer and of one farther, and the four
-- stores put the definition's four first values into the row. Assumes nothing.
use Prim.Native.Nat.{ℕ, ◌+◌}
use mathlib.Core.Path.{◌≡◌, ap₂, ◌∙◌}
use native.Mathlib.Numerals.{add-one}
use native.Mathlib.Omega.{arith}
use Rattle.board.proofs.Laws.{kept-most}
use Rattle.search.specs.declared.Job.{Job}
use Rattle.search.specs.Row.{first_stored}
use Rattle.search.specs.Search.{first_row}
use Rattle.search.specs.Run.{value_at, cut_at, first_at}
use Rattle.search.proofs.code.TableRows.{all-stored}
use Rattle.search.proofs.Ground.first_row.Invariants.{first_of}
use Rattle.search.proofs.Ground.first_row.Goals as goal

-- the value v of the successors at distance k, by the f that the code computed
value-is : (job : Job) (g h stored f k v : ℕ) → f ≡ value_at job g h
    → v ≡ cut_at job (g + 1) k (first_stored f stored (value_at job (g + 1) k))
    → v ≡ first_at job g h stored k
value-is job g h stored f k v e is = is ∙ ap₂ (λ (x n : ℕ). cut_at job n k (first_stored x stored (value_at job n k))) e (add-one g)

pub value-f-requires : goal.value-f-requires
value-f-requires c =
    (omega (arith, kept-most _ _ _ c.requires.kept.0), omega (arith, c.requires.last_bound.1))

pub first_value-closer-requires : goal.first_value-closer-requires
first_value-closer-requires c =
    (omega (arith, kept-most _ _ _ c.requires.kept.0), omega (arith, c.requires.last_bound.1))

pub overflow_add-at : goal.overflow_add-at
overflow_add-at c =
    omega (arith, kept-most _ _ _ c.requires.kept.0)

pub first_value-farther-requires : goal.first_value-farther-requires
first_value-farther-requires c =
    (omega (arith, kept-most _ _ _ c.requires.kept.0), omega (arith, c.requires.last_bound.1))

pub returns : goal.returns
unfolding first_row
returns c =
    let a = c.args in
    c.loop-m.invariant
    ∙ all-stored a.table.now a.g (first_of a.self.now a.at a.last a.g a.stored) c.loop-m.m (omega arith) c.requires.g_in_bounds
