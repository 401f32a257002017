-- `board::parity::exchanges` meets its contract: the loop follows the board's cycles (Cycles), and its measure is the turns that are
-- left. Assumes nothing.
use Prim.Native.Nat.{ℕ, ◌*◌, ◌<◌}
use mathlib.Core.Path.{◌≡◌, sym, ap, subst, ◌∙◌}
use mathlib.Core.List.{List, ◌++◌}
use native.Mathlib.Omega.{arith}
use lib.ListN.{length, take}
use lib.Seq.{take-append_seam}
use Rattle.board.specs.declared.Shape.{Shape}
use Rattle.board.specs.declared.Position.{Position}
use Rattle.board.specs.Shape.{cells}
use Rattle.board.specs.Board.{at}
use Rattle.board.specs.Held.{held}
use Rattle.board.specs.Order.{FewExchanges}
use Rattle.board.proofs.theory.Digits.{length_digits}
use Rattle.board.proofs.code.Cycles.{few-turns, taken_in_hand, first-turn, ends}
use Rattle.board.proofs.code.Cycles.{home_below, home-turn, home-less, exchange-turn, exchange-less}
use Rattle.board.proofs.parity.exchanges.Invariants.{measure}
use Rattle.board.proofs.parity.exchanges.Goals as goal

-- the measure falls at each turn (the goals `loop-i-smaller`) and starts below 2n: so the loop has fewer than 2n turns
pub starts_below :
    (n : ℕ) (cells : List ℕ)
    → length (take n cells) ≡ n
    → 0 < n
    → measure n cells (at cells 0) 0 < 2 * n
starts_below n cells long some = rw (taken_in_hand n cells 0 some) (few-turns (take n cells) n long some)

-- the first n cells of the copy are the board
front : (s : Shape) (p : Position) (rest copy : List ℕ) → copy ≡ held s p ++ rest → take (cells s) copy ≡ held s p
front s p rest copy is =
    ap (take (cells s)) is
    ∙ ap (λ n. take n (held s p ++ rest)) (sym (length_digits (cells s) p.cells))
    ∙ take-append_seam (held s p) rest

pub loop-i-init : goal.loop-i-init
loop-i-init c =
    let holds = c.requires in
    let count-is = c.cell_count-n.ensures in
    first-turn _ _ _ holds.shape (rw (count-is, front c.args.shape c.args.p _ _ c.put.ensures) holds.board) (sym count-is)

pub loop-i-smaller-then-home-i : goal.loop-i-smaller-then-home-i
loop-i-smaller-then-home-i c =
    home-less _ _ _ _ _ _ _ c.loop-i.invariant c.from-home.ensures (omega arith)

pub loop-i-preserved-then-home-i : goal.loop-i-preserved-then-home-i
loop-i-preserved-then-home-i c =
    home-turn _ _ _ _ _ _ _ c.loop-i.invariant c.from-home.ensures (omega arith) c.if-home-i.true

pub bounds-cells-home : goal.bounds-cells-home
bounds-cells-home c =
    omega (arith, home_below _ _ _ _ _ _ _ c.loop-i.invariant c.from-home.ensures)

pub bounds-cells-home-in-loop-i : goal.bounds-cells-home-in-loop-i
bounds-cells-home-in-loop-i c =
    omega (arith, home_below _ _ _ _ _ _ _ c.loop-i.invariant c.from-home.ensures)

pub loop-i-smaller : goal.loop-i-smaller
loop-i-smaller c =
    exchange-less _ _ _ _ _ _ _ c.loop-i.invariant c.from-home.ensures c.if-home-i.false

pub loop-i-preserved : goal.loop-i-preserved
loop-i-preserved c =
    exchange-turn _ _ _ _ _ _ _ c.loop-i.invariant c.from-home.ensures c.if-home-i.false

pub returns : goal.returns
returns c =
    let count-is = c.cell_count-n.ensures in
    subst (λ b. FewExchanges b c.loop-i.count) (rw count-is (front c.args.shape c.args.p _ _ c.put.ensures))
    (ends _ _ _ _ _ c.loop-i.invariant c.loop-i-test.false)
