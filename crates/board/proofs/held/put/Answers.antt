-- `board::held::put` meets its contract: the loop has put the first i cells, and left the rest as found.
-- Assumes nothing.
use Prim.Native.Nat.{ℕ, suc, ◌+◌, ◌≤◌, ◌<◌}
use mathlib.Core.Path.{◌≡◌, refl, sym, ap, ◌∙◌}
use mathlib.Core.List.{List, ◌++◌}
use native.Mathlib.Omega.{arith}
use native.Mathlib.Numerals.{add-one}
use lib.ListN.{length, take, drop, set, get_or, length-append, length-take, length-drop}
use lib.Seq.{take-suc, take_all, drop-cons, append_snoc, set_at, length-take-le}
use Rattle.board.specs.Digits.{digits}
use Rattle.board.proofs.theory.Digits.{length_digits, at-digits}
use Rattle.board.proofs.held.put.Invariants.{puts, Putting}
use Rattle.board.proofs.held.put.Goals as goal

module _ (l found out : List ℕ) (n i : ℕ) (putting : Putting l found out n i) where
  keeps-length : length out ≡ length found
  keeps-length = rw putting.same (simp (length-append, length-take, length-drop) (omega arith))

  one_more : (v : ℕ) → v ≡ get_or l i 0 → i < n → Putting l found (set out i v) n (i + 1)
  one_more v is below = record {
    within = omega arith;
    cells-last = putting.cells-last;
    room = putting.room;
    same =
        rw (is, putting.same, add-one)
        (ap (λ rest. set (take i l ++ rest) i (get_or l i 0)) (drop-cons found i 0 (omega arith))
        ∙ set_at (take i l) (get_or found i 0) (drop (suc i) found) (get_or l i 0) i (length-take-le i l (omega arith))
        ∙ sym (append_snoc (take i l) (get_or l i 0) (drop (suc i) found))
        ∙ ap (λ front. front ++ drop (suc i) found) (sym (take-suc l i 0 (omega arith))));
  }

  all-put : n ≤ i → out ≡ puts l found n
  all-put past = let last : i ≡ n = omega arith in putting.same ∙ ap (puts l found) last

pub loop-i-init : goal.loop-i-init
loop-i-init c =
    record {
      within = omega arith;
      cells-last = omega (arith, length_digits c.cell_count-i-end.result c.args.p.cells);
      room = rw c.cell_count-i-end.ensures c.requires.shape_in_bounds;
      same = refl;
    }

pub loop-i-preserved : goal.loop-i-preserved
loop-i-preserved c =
    let below = c.loop-i-test.true in
    let n = c.cell_count-i-end.result in
    let p = c.args.p in
    one_more _ _ _ _ _ c.loop-i.invariant _
    (c.number_at.ensures ∙ sym (at-digits n p.cells c.loop-i.i below)) below

pub returns : goal.returns
returns c =
    let n = c.cell_count-i-end.result in
    let l = digits n c.args.p.cells in
    all-put _ _ _ _ _ c.loop-i.invariant c.loop-i-test.false
    ∙ ap (λ front. front ++ drop n c.args.out.now) (take_all n l (omega (arith, length_digits n c.args.p.cells)))
    ∙ ap (λ k. digits k c.args.p.cells ++ drop k c.args.out.now) c.cell_count-i-end.ensures
