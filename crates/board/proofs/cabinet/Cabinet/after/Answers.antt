-- `board::cabinet::Cabinet::after` meets its contract: the way is the cell that the move leads to, the slide holds the board after the
-- move, and the change is the move's. Assumes nothing.
use Prim.Native.Nat.{ℕ, ◌+◌}
use mathlib.Core.Path.{◌≡◌, ◌∙◌}
use mathlib.Core.Bool.{true}
use native.Mathlib.Omega.{arith}
use borrow.Author.Tests.{ne_eqb}
use Rattle.board.specs.declared.Shape.{Shape}
use Rattle.board.specs.declared.Position.{Position}
use Rattle.board.specs.Moves.{leads_to, legal}
use Rattle.board.specs.Distance.{way}
use Rattle.board.specs.Held.{held, Holds}
use Rattle.board.proofs.theory.Ways.{way_on}
use Rattle.board.proofs.theory.Moving.{legal-number}
use Rattle.board.proofs.theory.Changes.{read_as, move-one_step}
use Rattle.board.proofs.code.Holding.{empty-below}
use Rattle.board.proofs.code.Sliding.{passes, stays, target_below, change-is, may-slide, moved_by}
use Rattle.board.proofs.cabinet.Cabinet.after.Goals as goal

-- none takes back what is no move
leads : (s : Shape) (p : Position) (holds : Holds s p) (m t : ℕ) → legal s (held s p) m ≡ true → t ≡ way s p.empty 4 m
    → t ≡ leads_to s p.empty m
leads s p holds m t allowed is = is ∙ way_on s p.empty 4 m (stays s p holds m allowed) (ne_eqb (4 + m) 3 (λ e. omega arith))

pub way-t-requires-clause-e_bound : goal.way-t-requires-clause-e_bound
way-t-requires-clause-e_bound c =
    let pre = c.requires in
    empty-below _ _ pre.holds

pub way-t-requires-clause-last_bound : goal.way-t-requires-clause-last_bound
way-t-requires-clause-last_bound c =
    let pre = c.requires in
    let number = legal-number _ _ _ pre.holds.shape pre.holds.board (passes pre.legal_move) in
    (omega arith, number)

pub change_to-change-requires-clause-t_bound : goal.change_to-change-requires-clause-t_bound
change_to-change-requires-clause-t_bound c =
    let pre = c.requires in
    let led = leads _ _ pre.holds _ _ pre.legal_move c.way-t.ensures in
    target_below _ _ pre.holds _ _ pre.legal_move led

pub slid-position-requires : goal.slid-position-requires
slid-position-requires c =
    let pre = c.requires in
    may-slide _ _ pre.holds _ _ pre.legal_move (leads _ _ pre.holds _ _ pre.legal_move c.way-t.ensures)

pub returns : goal.returns
returns c =
    let pre = c.requires in
    let led = leads _ _ pre.holds _ _ pre.legal_move c.way-t.ensures in
    let step = move-one_step _ _ _ pre.holds.shape pre.holds.board (passes pre.legal_move) in
    let tells = c.change_to-change.ensures ∙ change-is _ _ pre.holds _ _ pre.legal_move led in
    moved_by _ _ pre.holds _ _ pre.legal_move led _ _ c.slid-position.ensures (read_as tells step)
