-- `board::held::hold` meets its contract: the loop has packed the last k cells, and the empty cell is found as the definition says.
-- Assumes nothing.
use Prim.Native.Nat.{ℕ, suc, ◌+◌, ◌-◌, ◌*◌, ◌^◌, ◌≤◌, ◌<◌}
use mathlib.Core.Path.{◌≡◌, refl, sym, ap, subst, ◌∙◌}
use mathlib.Core.List.{List}
use native.Mathlib.Omega.{arith}
use mathlib.Core.List.{reverse}
use Rattle.std.proofs.Common.{length-append}
use native.Mathlib.Nat.{sub-zero}
use Rattle.std.proofs.lemmas.Grind.{get_or_default_zero}
use Rattle.std.proofs.lemmas.List.{get_or-reverse, length-reverse}
use lib.ListN.{length, get_or, drop, length-drop}
use Rattle.std.proofs.lemmas.Iterator.Consumers.{YieldsList-turn, YieldsList-end}
use Rattle.std.proofs.lemmas.Iterator.Adapters.{YieldsList-from_rev_slice}
use lib.Seq.{drop-cons, drop-length, get_or-drop}
use Rattle.board.specs.declared.Shape.{Shape}
use Rattle.board.specs.Shape.{cells, GoodShape}
use Rattle.board.specs.Board.{at, IsBoard, empty_cell}
use Rattle.board.specs.Faults.{first_holding}
use Rattle.board.specs.Digits.{digits}
use Rattle.board.specs.Held.{Taken}
use Rattle.std.specs.Option.{IsSome}
use Rattle.board.proofs.theory.Firsts.{found_below, found_is}
use Rattle.board.proofs.theory.Sides.{cells-within}
use Rattle.board.proofs.theory.Boards.{empty-inside}
use Rattle.board.proofs.theory.Digits.{word, packed, Small, packed-below, packed-word, digits-packed}
use Rattle.board.proofs.code.Sliding.{board-small}
use Rattle.board.proofs.held.hold.Invariants.{Packing}
use Rattle.board.proofs.held.hold.Goals as goal

none_yet : (b : List ℕ) → Packing b 0 0
unfolding packed
none_yet b = record { within = omega arith; packs = rw (sub-zero, drop-length) }

from_cell : (b : List ℕ) (i : ℕ) → i < length b → packed (drop i b) ≡ at b i + 16 * packed (drop (suc i) b)
unfolding packed
from_cell b i inside = rw (drop-cons b i 0 inside)

-- a turn: the board backwards has v after the k cells that are packed
one_more : (b : List ℕ) (x k v : ℕ) → Packing b x k → (k < length (reverse b)) × (v ≡ get_or (reverse b) k v)
    → Packing b (16 * x + v) (k + 1)
one_more b x k v p (some, is) =
    let i = length b - 1 - k in
    let below : k < length b = omega (arith, length-reverse b) in
    let here : length b - (k + 1) ≡ i = omega arith in
    let next : suc i ≡ length b - k = omega arith in
    let stands : v ≡ at b i = is ∙ get_or-reverse b k v below ∙ get_or_default_zero b i v (omega arith) in
    record {
      within = omega arith;
      packs =
          rw here (omega (arith, from_cell b i (omega arith), ap (λ (j : ℕ). packed (drop j b)) next, p.packs));
    }

fits : (s : Shape) (b : List ℕ) (x k : ℕ) → GoodShape s → IsBoard s b → Packing b x k → x < word
fits s b x k good board p =
    subst (λ (y : ℕ). y < word) (sym p.packs)
    (packed-word (drop (length b - k) b) small (omega (arith, length-drop (length b - k) b, board.long, cells-within good)))
  where
    small : Small (drop (length b - k) b)
    small j h =
        rw (get_or-drop (length b - k) b j 0) (board-small s b good board (length b - k + j) (omega (arith, length-drop (length b - k) b)))

taken : (s : Shape) (b : List ℕ) (x e k : ℕ) → GoodShape s → IsBoard s b → Packing b x k → length b ≤ k → e ≡ empty_cell b
    → Taken s b (record { cells = x; empty = e })
taken s b x e k good board p end is =
    record {
      same = same;
      holds =
          record {
            shape = good;
            board = subst (IsBoard s) (sym same) board;
            empty = is ∙ ap empty_cell (sym same);
            rest = subst (λ (n : ℕ). x < 16 ^ n) board.long (subst (λ (y : ℕ). y < 16 ^ length b) (sym all) (packed-below b small));
          };
    }
  where
    small : Small b
    small = board-small s b good board

    all : x ≡ packed b
    all = let first : length b - k ≡ 0 = omega arith in p.packs ∙ ap (λ (j : ℕ). packed (drop j b)) first

    same : digits (cells s) x ≡ b
    same = ap (λ (n : ℕ). digits n x) (sym board.long) ∙ ap (digits (length b)) all ∙ digits-packed b small

pub loop-x-init : goal.loop-x-init
loop-x-init c =
    none_yet _

pub overflow_mul-cells : goal.overflow_mul-cells
overflow_mul-cells c =
    let turn =
    YieldsList-turn (YieldsList-from_rev_slice c.args.board.now cc) c.loop-x.yielded _ c.loop-x.yielded_by _ _ c.in-Some.x
    c.in-Some.is c.next.ensures.steps in
    let made = one_more _ _ _ c.in-Some.x.now c.loop-x.invariant turn in
    omega (arith, fits _ _ _ _ c.requires.good_shape c.requires.board made)

pub overflow_add-cells : goal.overflow_add-cells
overflow_add-cells c =
    let turn =
    YieldsList-turn (YieldsList-from_rev_slice c.args.board.now cc) c.loop-x.yielded _ c.loop-x.yielded_by _ _ c.in-Some.x
    c.in-Some.is c.next.ensures.steps in
    let made = rw (← c.from.ensures) at (one_more _ _ _ c.in-Some.x.now c.loop-x.invariant turn) in
    record { fits = fits _ _ _ _ c.requires.good_shape c.requires.board made }

pub loop-x-preserved : goal.loop-x-preserved
loop-x-preserved c =
    let turn =
    YieldsList-turn (YieldsList-from_rev_slice c.args.board.now cc) c.loop-x.yielded _ c.loop-x.yielded_by _ _ c.in-Some.x
    c.in-Some.is c.next.ensures.steps in
    rw (length-append, c.from.ensures) (one_more _ _ _ c.in-Some.x.now c.loop-x.invariant turn)

pub unwrap-empty-requires : goal.unwrap-empty-requires
unfolding first_holding empty_cell
unwrap-empty-requires c =
    let board = c.requires.board in
    let some = found_below _ _ (omega (arith, board.long, empty-inside _ _ c.requires.good_shape board)) ∙ sym c.first_holding.ensures in
    subst IsSome some refl

pub returns : goal.returns
unfolding first_holding empty_cell
returns c =
    let empty = found_is _ _ _ (sym c.first_holding.ensures ∙ c.unwrap-empty.ensures) in
    let end =
    YieldsList-end (YieldsList-from_rev_slice c.args.board.now cc) c.loop-x.yielded _ c.loop-x.yielded_by _ _ c.in-None.is
    c.next.ensures.steps in
    taken _ _ _ _ _ c.requires.good_shape c.requires.board c.loop-x.invariant
    (omega (arith, length-reverse {A = ℕ}, end.1)) (sym empty.0)
