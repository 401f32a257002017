-- `board::cabinet::Cabinet::distance` meets its contract: the loop sums what the cabinet's table gives for each cell, which is the tray's
-- distance; no sum on the way is above the board's distance, so none wraps. Assumes nothing.
use Prim.Native.Nat.{ℕ, suc, ◌+◌, ◌≤◌, ◌<◌}
use mathlib.Core.Path.{◌≡◌, refl, sym, ap, ap₂, ◌∙◌}
use mathlib.Core.List.{List, [], ◌∷◌}
use native.Mathlib.Omega.{arith}
use native.Mathlib.Nat.{add-zero}
use native.Mathlib.Numerals.{add-one}
use lib.ListN.{length, drop_of_length-le}
use lib.Seq.{drop-cons}
use Rattle.board.specs.declared.Shape.{Shape}
use Rattle.board.specs.declared.Position.{Position}
use Rattle.board.specs.Shape.{cells, GoodShape}
use Rattle.board.specs.Board.{at, IsBoard}
use Rattle.board.specs.Distance.{tray_distance, distance_from, distance, NearTable}
use Rattle.board.specs.Digits.{digits, digit}
use Rattle.board.specs.Held.{held, Holds}
use Rattle.board.proofs.theory.Distances.{distance-at-most_90}
use Rattle.board.proofs.theory.Digits.{at-digits}
use Rattle.board.proofs.theory.Changes.{looked_up}
use Rattle.board.proofs.cabinet.Cabinet.distance.Invariants.{sum_from, looked_up_in, Summed}
use Rattle.board.proofs.cabinet.Cabinet.distance.Goals as goal

-- f and the trays' distance agree at each cell: so do the sums
as-distance : (s : Shape) (f : ℕ → ℕ → ℕ) (i : ℕ) (xs : List ℕ)
    → ((k : ℕ) → k < length xs → f (i + k) (at xs k) ≡ tray_distance s (i + k) (at xs k)) → sum_from f i xs ≡ distance_from s i xs
unfolding sum_from distance_from
as-distance s f i [] same = refl
as-distance s f i (x ∷ xs) same =
    ap₂ ◌+◌
    (ap (λ (j : ℕ). f j x) (sym (add-zero i)) ∙ same 0 (omega arith) ∙ ap (λ (j : ℕ). tray_distance s j x) (add-zero i))
    (as-distance s f (suc i) xs
    (λ k below.
    let up : suc i + k ≡ i + suc k = omega arith in
    ap (λ (j : ℕ). f j (at xs k)) up ∙ same (suc k) (omega arith) ∙ ap (λ (j : ℕ). tray_distance s j (at xs k)) (sym up)))

total : (s : Shape) (b near : List ℕ) → GoodShape s → IsBoard s b → NearTable s near → sum_from (looked_up_in near) 0 b ≡ distance s b
unfolding distance
total s b near good board table =
    as-distance s (looked_up_in near) 0 b
    (λ k below.
    let inside : 0 + k < cells s = omega (arith, board.long) in
    looked_up s near (0 + k) (at b k) good table inside (board.small k (omega (arith, board.long))))

one_more : (f : ℕ → ℕ → ℕ) (b : List ℕ) (n sum i k : ℕ) → Summed f b n sum i → i < n → n ≡ length b → k ≡ f i (at b i)
    → Summed f b n (sum + k) (i + 1)
unfolding sum_from
one_more f b n sum i k done below long is =
    record {
      within = omega arith;
      whole = rw add-one (omega (arith, done.whole, ap (sum_from f i) (drop-cons b i 0 (omega arith))));
    }

-- with the next cell's part the sum is still at most the whole
part : (f : ℕ → ℕ → ℕ) (b : List ℕ) (n sum i k : ℕ) → Summed f b n sum i → i < n → n ≡ length b → k ≡ f i (at b i)
    → sum + k ≤ sum_from f 0 b
part f b n sum i k done below long is = omega (arith, (one_more f b n sum i k done below long is).whole)

all-summed : (f : ℕ → ℕ → ℕ) (b : List ℕ) (n sum i : ℕ) → Summed f b n sum i → n ≤ i → n ≡ length b → sum ≡ sum_from f 0 b
unfolding sum_from
all-summed f b n sum i done past long =
    sym (add-zero sum) ∙ ap (λ (l : List ℕ). sum + sum_from f i l) (sym (drop_of_length-le b {i = i} (omega arith))) ∙ done.whole

module _ (s : Shape) (p : Position) (n i v : ℕ) (holds : Holds s p) (count : n ≡ cells s) (below : i < n)
    (is : v ≡ digit p.cells i) where
  -- what was read stands in the board
  in_board : v ≡ at (digits n p.cells) i
  in_board = is ∙ sym (at-digits n p.cells i below)

-- the board's cells, as many as were counted, and what their sum is
module _ (s : Shape) (p : Position) (n : ℕ) (near : List ℕ) (holds : Holds s p) (count : n ≡ cells s) (table : NearTable s near) where
  all-counted : n ≡ length (digits n p.cells)
  all-counted = count ∙ sym holds.board.long ∙ ap (λ (k : ℕ). length (digits k p.cells)) (sym count)

  sum_is : sum_from (looked_up_in near) 0 (digits n p.cells) ≡ distance s (held s p)
  sum_is =
      ap (λ (k : ℕ). sum_from (looked_up_in near) 0 (digits k p.cells)) count
      ∙ total s (held s p) near holds.shape holds.board table

-- what a turn adds is the part of its cell
pub overflow_add-sum : goal.overflow_add-sum
overflow_add-sum c =
    let count = c.cell_count-i-end.ensures in
    let read = in_board _ _ _ _ _ c.requires count c.loop-i-test.true c.number_at.ensures in
    omega (
      arith,
      sum_is _ _ _ _ c.requires count c.args.self.now.table,
      part (looked_up_in c.args.self.now.near) _ _ _ _ _ c.loop-i.invariant c.loop-i-test.true
          (all-counted _ _ _ _ c.requires count c.args.self.now.table)
          (c.from-sum.ensures ∙ ap (looked_up_in c.args.self.now.near c.loop-i.i) read),
      distance-at-most_90 _ _ c.requires.shape c.requires.board,
    )

pub loop-i-preserved : goal.loop-i-preserved
loop-i-preserved c =
    let count = c.cell_count-i-end.ensures in
    let read = in_board _ _ _ _ _ c.requires count c.loop-i-test.true c.number_at.ensures in
    one_more (looked_up_in c.args.self.now.near) _ _ _ _ _ c.loop-i.invariant c.loop-i-test.true
    (all-counted _ _ _ _ c.requires count c.args.self.now.table)
    (c.from-sum.ensures ∙ ap (looked_up_in c.args.self.now.near c.loop-i.i) read)

pub returns : goal.returns
returns c =
    let count = c.cell_count-i-end.ensures in
    all-summed _ _ _ _ _ c.loop-i.invariant c.loop-i-test.false (all-counted _ _ _ _ c.requires count c.args.self.now.table)
    ∙ sum_is _ _ _ _ c.requires count c.args.self.now.table
