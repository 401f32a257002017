-- What the loop of `search::Ground::first_row` keeps: the first values of the moves before m are stored. Assumes nothing.
use Prim.Native.Nat.{ℕ, ◌*◌}
use mathlib.Core.Path.{◌≡◌}
use Rattle.board.specs.Held.{held}
use Rattle.search.specs.declared.Ground.{Ground}
use Rattle.board.specs.declared.Place.{Place}
use Rattle.search.specs.Space.{boards}
use Rattle.search.specs.Search.{static, first_entry}
use Rattle.search.proofs.code.TableRows.{stored}
use Rattle.search.proofs.Ground.first_row.Given as goal

-- the first value of a move, on a search's ground
abbrev pub first_of : Ground → Place → ℕ → ℕ → ℕ → ℕ → ℕ
first_of x at last g f m =
    let s = x.cabinet.shape in
    first_entry (boards s) (static (boards s) x.weight) x.ceiling g (held s at.position) last f m

abbrev pub invariant-loop-m : goal.invariant-loop-m
invariant-loop-m l =
    l.table ≡ stored (first_of l.self l.at l.last l.g l.stored) l.initial.table (4 * l.g) l.m
