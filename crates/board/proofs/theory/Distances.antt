-- The distance of a board. First one tray's: one more or less after a step, the same on a grid four wide, at most 6, and 0 only
-- at home. Then the sum over the cells: how a loop splits it, what one store changes, its bound. So the laws of a board's
-- distance: the goal has 0 and no other board has, it is at most 90, and a legal move changes it by one. Assumes nothing.
use Prim.Native.Nat.{ℕ, zero, suc, ◌+◌, ◌*◌, ◌/◌, ◌%◌, ◌≤◌, ◌<◌}
use mathlib.Core.Path.{◌≡◌, refl, sym, ◌∙◌, ap}
use mathlib.Core.Logic.{◌≢◌, ◌↔◌}
use mathlib.Core.List.{List, [], ◌∷◌}
use native.Mathlib.Decide.{ℕ_discrete}
use native.Mathlib.Omega.{arith}
use lib.Dec.{T}
use lib.ListN.{length, set, drop}
use lib.Seq.{drop-cons, drop-length, get_or-set_other, lt-length-set}
use Rattle.board.specs.declared.Shape.{Shape}
use Rattle.board.specs.Shape.{cells, row, column, GoodShape}
use Rattle.board.specs.Board.{at, IsBoard, empty_cell, in_order, goal}
use Rattle.board.specs.Moves.{legal, after}
use Rattle.board.specs.Distance.{apart, between, tray_distance, distance_from, distance, four_wide, between_four}
use Rattle.board.proofs.theory.OneApart.{OneApart, one-apart_across, one-apart-right, one-apart-left, one-apart_sym, apart_step}
use Rattle.board.proofs.theory.Boards.{empty-inside, empty-holds_0, same-cell, goal-is}
use Rattle.board.proofs.theory.Swaps.{swapped}
use Rattle.board.proofs.theory.Steps.{Step, up, left, right, down, same_place}
use Rattle.board.proofs.theory.Sides.{side_within, cells-within, cell_row, cell-column}
use Rattle.board.proofs.theory.Moving.{target, legal_step, target-inside, target-elsewhere, target-holds-tray, after_swaps}

-- ---- one tray

pub tray-between : (s : Shape) (i v : ℕ) → v ≢ 0 → tray_distance s i v ≡ between s i v
unfolding tray_distance
tray-between s i zero d = absurd (d refl)
tray-between s i (suc v) d = refl

pub tray-empty : (s : Shape) (i : ℕ) → tray_distance s i 0 ≡ 0
unfolding tray_distance
tray-empty s i = refl

pub tray-at-home : (s : Shape) (i : ℕ) → tray_distance s i i ≡ 0
unfolding tray_distance
tray-at-home s zero = refl
tray-at-home s (suc i) = omega arith

pub step_between : {s : Shape} {e t m : ℕ} → Step s e t m → (j : ℕ) → OneApart (between s e j) (between s t j)
step_between {s} {e} {t} p j = go p
  where
    rows : ℕ → ℕ
    rows i = apart (row s i) (row s j)

    columns : ℕ → ℕ
    columns i = apart (column s i) (column s j)

    same_row : row s e ≡ row s t → rows e ≡ rows t
    same_row h = ap (λ k. apart k (row s j)) h

    same-column : column s e ≡ column s t → columns e ≡ columns t
    same-column h = ap (λ k. apart k (column s j)) h

    go : {m : ℕ} → Step s e t m → OneApart (rows e + columns e) (rows t + columns t)
    go (up r c) = one-apart-right (rows e) (rows t) (apart_step (row s e) (row s t) (row s j) r) (same-column c)
    go (left r c) = one-apart-left (columns e) (columns t) (same_row r) (apart_step (column s e) (column s t) (column s j) c)
    go (right r c) =
        one-apart-left (columns e) (columns t) (same_row r) (one-apart_sym (apart_step (column s t) (column s e) (column s j) c))
    go (down r c) =
        one-apart-right (rows e) (rows t) (one-apart_sym (apart_step (row s t) (row s e) (row s j) r)) (same-column c)

-- ---- the grid four wide

module _ (s : Shape) (shape : GoodShape s) where
  pub row-below_4 : (i : ℕ) → i < cells s → row s i < 4
  row-below_4 i h = omega (arith, cell_row shape i h, side_within shape.high)

  pub column-below_4 : (i : ℕ) → column s i < 4
  column-below_4 i = omega (arith, cell-column shape i, side_within shape.wide)

  pub four-wide-inside : (i : ℕ) → i < cells s → four_wide s i < 16
  four-wide-inside i h = omega (arith, row-below_4 i h, column-below_4 i)

  four-wide-row : (i : ℕ) → four_wide s i / 4 ≡ row s i
  four-wide-row i = omega (arith, column-below_4 i)

  four-wide-column : (i : ℕ) → four_wide s i % 4 ≡ column s i
  four-wide-column i = omega (arith, column-below_4 i)

  pub between-four : (i j : ℕ) → between s i j ≡ between_four (four_wide s i) (four_wide s j)
  between-four i j = simp (four-wide-row, four-wide-column)

  pub between-at-most_6 : (i j : ℕ) → i < cells s → j < cells s → between s i j ≤ 6
  between-at-most_6 i j h k = omega (arith, row-below_4 i h, row-below_4 j k, column-below_4 i, column-below_4 j)

  pub tray-at-most_6 : (i v : ℕ) → i < cells s → v < cells s → tray_distance s i v ≤ 6
  unfolding tray_distance
  tray-at-most_6 i zero h k = omega arith
  tray-at-most_6 i (suc v) h k = between-at-most_6 i (suc v) h k

  pub tray-home : (i v : ℕ) → v ≢ 0 → tray_distance s i v ≡ 0 → v ≡ i
  tray-home i v d e = let h = sym (tray-between s i v d) ∙ e in same_place s shape v i (omega arith) (omega arith)

-- ---- the sum over the cells

-- a loop that stands at cell i
pub distance-from-cell :
    (s : Shape) (b : List ℕ) (i : ℕ)
    → i < length b
    → distance_from s i (drop i b) ≡ tray_distance s i (at b i) + distance_from s (suc i) (drop (suc i) b)
unfolding distance_from
distance-from-cell s b i h = rw (drop-cons b i 0 h)

pub distance-from-end : (s : Shape) (b : List ℕ) (i : ℕ) → distance_from s i (drop (length b) b) ≡ 0
unfolding distance_from
distance-from-end s b i = rw drop-length

-- a store into the k-th of the cells from i on, which is cell p, changes only that cell's part
distance-set :
    (s : Shape) (b : List ℕ) (i k p v : ℕ)
    → p ≡ i + k
    → k < length b
    → distance_from s i (set b k v) + tray_distance s p (at b k) ≡ distance_from s i b + tray_distance s p v
unfolding distance_from
distance-set s [] i k p v e h = absurd (omega arith)
distance-set s (x ∷ xs) i zero p v e h = let q : p ≡ i = omega arith in rw q (omega arith)
distance-set s (x ∷ xs) i (suc k) p v e h = omega (arith, distance-set s xs (suc i) k p v (omega arith) (omega arith))

-- a tray slides from cell t into cell e, which held 0: its way home from t is exchanged for that from e
pub distance-swapped :
    (s : Shape) (b : List ℕ) (e t : ℕ)
    → t ≢ e
    → e < length b
    → t < length b
    → at b e ≡ 0
    → tray_distance s e (at b t) + distance_from s 0 b ≡ tray_distance s t (at b t) + distance_from s 0 (swapped b e t)
distance-swapped s b e t d p q z =
    let first = distance-set s b 0 e e (at b t) (omega arith) p in
    let second = distance-set s (set b e (at b t)) 0 t t (at b e) (omega arith) (lt-length-set b e (at b t) q) in
    let left-e = ap (tray_distance s e) z ∙ tray-empty s e in
    let left-t = ap (tray_distance s t) z ∙ tray-empty s t in
    let moved = ap (tray_distance s t) (get_or-set_other b e t (at b t) 0 d) in
    omega arith

-- no tray is farther from home than the whole
tray_part :
    (s : Shape) (b : List ℕ) (i k p : ℕ)
    → p ≡ i + k
    → k < length b
    → tray_distance s p (at b k) ≤ distance_from s i b
unfolding distance_from
tray_part s [] i k p e h = absurd (omega arith)
tray_part s (x ∷ xs) i zero p e h = let q : p ≡ i = omega arith in rw q (omega arith)
tray_part s (x ∷ xs) i (suc k) p e h = omega (arith, tray_part s xs (suc i) k p (omega arith) (omega arith))

-- numbers below n, in cells below n, where each tray is at most 6 from home
module _ (s : Shape) (n : ℕ) (near : (i v : ℕ) → i < n → v < n → tray_distance s i v ≤ 6) where
  bounded : (b : List ℕ) (i : ℕ) → i + length b ≤ n → ((j : ℕ) → j < length b → at b j < n) → distance_from s i b ≤ 6 * length b
  unfolding distance_from
  bounded [] i h small = omega arith
  bounded (x ∷ xs) i h small =
      let tray = near i x (omega arith) (small 0 (omega arith)) in
      let rest = bounded xs (suc i) (omega arith) (λ j l. small (suc j) (omega arith)) in
      omega arith

  -- a cell that holds 0 spares one tray
  spared :
      (b : List ℕ) (i k : ℕ)
      → i + length b ≤ n
      → ((j : ℕ) → j < length b → at b j < n)
      → k < length b
      → at b k ≡ 0
      → 6 + distance_from s i b ≤ 6 * length b
  unfolding distance_from
  spared [] i k h small l z = absurd (omega arith)
  spared (x ∷ xs) i zero h small l z =
      let empty = ap (tray_distance s i) z ∙ tray-empty s i in
      let rest = bounded xs (suc i) (omega arith) (λ j u. small (suc j) (omega arith)) in
      omega arith
  spared (x ∷ xs) i (suc k) h small l z =
      let tray = near i x (omega arith) (small 0 (omega arith)) in
      let rest = spared xs (suc i) k (omega arith) (λ j u. small (suc j) (omega arith)) (omega arith) z in
      omega arith

-- ---- a board's distance

in_order_lem : (s : Shape) (i k : ℕ) → distance_from s i (in_order i k) ≡ 0
unfolding distance_from in_order
in_order_lem s i zero = refl
in_order_lem s i (suc k) = omega (arith, in_order_lem s (suc i) k, tray-at-home s i)

pub goal-distance : (s : Shape) → distance s (goal s) ≡ 0
unfolding distance goal
goal-distance s = in_order_lem s 0 (cells s)

module _ (s : Shape) (b : List ℕ) (shape : GoodShape s) (board : IsBoard s b) where
  listed : {i : ℕ} → i < cells s → i < length b
  listed h = rw board.long h

  pub distance-at-most_90 : distance s b ≤ 90
  unfolding distance
  distance-at-most_90 =
      let long = board.long in
      let sum =
      spared s (cells s) (tray-at-most_6 s shape) b 0 (empty_cell b) (omega arith) (λ j l. board.small j (omega arith))
      (listed (empty-inside s b shape board)) (empty-holds_0 s b shape board)
      in
      omega (arith, cells-within shape)

  pub distance_0_goal : distance s b ≡ 0 → b ≡ goal s
  unfolding distance
  distance_0_goal e = goal-is s b board.long own
    where
      home : (i : ℕ) → i < cells s → at b i ≢ 0 → at b i ≡ i
      home i h d = tray-home s shape i (at b i) d (omega (arith, tray_part s b 0 i i (omega arith) (listed h)))

      first : 0 < cells s → at b 0 ≡ 0
      first h = elim (ℕ_discrete (at b 0) 0) [ yes z ↦ z | no d ↦ home 0 h d ]

      own : (i : ℕ) → i < cells s → at b i ≡ i
      own i h =
          elim (ℕ_discrete (at b i) 0) [
            | yes z ↦ z ∙ same-cell s b board 0 i (omega arith) h (first (omega arith) ∙ sym z)
            | no d ↦ home i h d
          ]

  pub distance_0_iff_goal : (distance s b ≡ 0) ↔ (b ≡ goal s)
  distance_0_iff_goal = (distance_0_goal, λ e. rw e (goal-distance s))

  pub move-distance : (m : ℕ) → T (legal s b m) → OneApart (distance s (after s b m)) (distance s b)
  unfolding distance
  move-distance m allowed =
      rw (after_swaps s b m shape board allowed)
      (one-apart_across (tray_distance s e x) (tray_distance s t x) (distance_from s 0 b) (distance_from s 0 (swapped b e t))
      (distance-swapped s b e t (target-elsewhere s b m shape board allowed) (listed (empty-inside s b shape board))
      (listed (target-inside s b m shape board allowed)) (empty-holds_0 s b shape board))
      (rw (tray-between s e x tray, tray-between s t x tray) (step_between (legal_step s b m shape board allowed) x)))
    where
      e : ℕ
      e = empty_cell b

      t : ℕ
      t = target s b m

      x : ℕ
      x = at b t

      tray : x ≢ 0
      tray = target-holds-tray s b m shape board allowed

-- what bounds a place in the table of distances
pub ruleset places = (four-wide-inside)
