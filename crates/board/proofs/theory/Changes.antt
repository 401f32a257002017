-- The change of distance by a legal move. First what the shape's table gives for a tray and for a way, and one more and one less among the
-- integers. Then the laws: a move's distance is the one before it plus its change, which is -1 or +1; along a legal list the first distance
-- plus all changes is the last; and what a move answers is its change. Assumes nothing.
use Prim.Native.Nat.{ℕ, zero, suc, ◌+◌, ◌*◌, ◌-◌, ◌/◌, ◌%◌, ◌≤◌, ◌<◌}
use mathlib.Core.Path.{◌≡◌, refl, sym, ◌∙◌, ap}
use mathlib.Core.Logic.{inl, inr}
use mathlib.Core.Bool.{Bool, true, false, cond}
use mathlib.Core.List.{List, [], ◌∷◌}
use native.Mathlib.Omega.{arith}
use lib.Dec.{T, ltb}
use lib.IntN.{ℤ, pos, negsuc, ◌+ℤ◌, -ℤ_one, +ℤ_idr, +ℤ_assoc, nat_abs, pos-ne-negsuc}
use lib.ListN.{length, get_or}
use mir.Syntax.{w8}
use mir.Val.{to_z, of_z}
use borrow.Author.Tests.{lt-ltb, le-ltb, ltb-true, ltb-false}
use Rattle.board.specs.declared.Shape.{Shape}
use Rattle.board.specs.declared.Moved.{Moved}
use Rattle.board.specs.Shape.{cells, GoodShape}
use Rattle.board.specs.Board.{at, IsBoard, empty_cell}
use Rattle.board.specs.Moves.{leads_to, legal, after}
use Rattle.board.specs.Lists.{LegalList, end_board}
use Rattle.board.specs.Distance.{tray_distance, distance, way, cell_at, near_at, NearTable}
use Rattle.board.specs.Change.{OneStep, nearer, farther, change_of, change, change_to, changes, MovedBy}
use Rattle.board.proofs.theory.OneApart.{OneApart}
use Rattle.board.proofs.theory.Sides.{cells-within}
use Rattle.board.proofs.theory.Boards.{empty-inside, empty-holds_0}
use Rattle.board.proofs.theory.Moving.{target, legal_step, target-inside, target-elsewhere, target-holds-tray}
use Rattle.board.proofs.theory.Moving.{after_swaps, after-board}
use Rattle.board.proofs.theory.Distances.{tray-between, step_between, distance-swapped}

-- ---- the shape's table

-- entry j of cell e
entry_at : (s : Shape) (near : List ℕ) (e j : ℕ) → GoodShape s → NearTable s near → e < cells s → j < 64
    → get_or near (64 * e + j) 0 ≡ cell_at s e j
unfolding near_at
entry_at s near e j good table below few =
    let most = cells-within good in
    let cell : (64 * e + j) / 64 ≡ e = omega arith in
    let place : (64 * e + j) % 64 ≡ j = omega arith in
    table.entry (64 * e + j) (omega arith) ∙ simp (cell, place, lt-ltb e (cells s) below)

pub looked_up : (s : Shape) (near : List ℕ) (i v : ℕ) → GoodShape s → NearTable s near → i < cells s → v < cells s
    → get_or near (64 * i + v) 0 ≡ tray_distance s i v
unfolding cell_at
looked_up s near i v good table below-i below-v =
    let few = cells-within good in
    entry_at s near i v good table below-i (omega arith) ∙ simp (lt-ltb v 16 (omega arith), lt-ltb v (cells s) below-v)

way-cell : (s : Shape) (e last m : ℕ) → last ≤ 4 → m < 4 → cell_at s e (16 + 4 * last + m) ≡ way s e last m
unfolding cell_at
way-cell s e last m few move =
    let earlier : (16 + 4 * last + m - 16) / 4 ≡ last = omega arith in
    let step : (16 + 4 * last + m - 16) % 4 ≡ m = omega arith in
    simp (le-ltb (16 + 4 * last + m) 16 (omega arith), lt-ltb (16 + 4 * last + m) 36 (omega arith), earlier, step)

pub way_looked_up : (s : Shape) (near : List ℕ) (e last m : ℕ) → GoodShape s → NearTable s near → e < cells s → last ≤ 4 → m < 4
    → get_or near (64 * e + 16 + 4 * last + m) 0 ≡ way s e last m
way_looked_up s near e last m good table below few move =
    let place : 64 * e + 16 + 4 * last + m ≡ 64 * e + (16 + 4 * last + m) = omega arith in
    ap (λ (k : ℕ). get_or near k 0) place
    ∙ entry_at s near e (16 + 4 * last + m) good table below (omega arith)
    ∙ way-cell s e last m few move

-- ---- one more and one less, among the integers

pub one_less : (a c : ℕ) → c ≡ 1 + a → pos a ≡ pos c +ℤ negsuc 0
one_less a c e = let is : c ≡ suc a = omega arith in rw is (sym (-ℤ_one (pos (suc a))))

one_more : (a c : ℕ) → a ≡ 1 + c → pos a ≡ pos c +ℤ pos 1
one_more a c e = ap pos (omega arith)

pub less_means : (a c : ℕ) → pos a ≡ pos c +ℤ negsuc 0 → c ≡ 1 + a
less_means a zero e = absurd (pos-ne-negsuc a 0 e)
less_means a (suc c) e = let same : a ≡ c = ap nat_abs (e ∙ -ℤ_one (pos (suc c))) in omega arith

pub more_means : (a c : ℕ) → pos a ≡ pos c +ℤ pos 1 → a ≡ 1 + c
more_means a c e = let same : a ≡ c + 1 = ap nat_abs e in omega arith

-- two numbers settle the step between them
pub one-change : (a c : ℕ) {y z : ℤ} → OneStep y → OneStep z → pos a ≡ pos c +ℤ y → pos a ≡ pos c +ℤ z → y ≡ z
one-change a c nearer nearer p q = refl
one-change a c farther farther p q = refl
one-change a c nearer farther p q = absurd (omega (arith, less_means a c p, more_means a c q))
one-change a c farther nearer p q = absurd (omega (arith, more_means a c p, less_means a c q))

-- ---- a step is a signed byte: what is read back is what was put

abbrev pub read_back : ℤ → ℤ
read_back z = to_z w8 (of_z w8 z)

pub read_back_lem : {z : ℤ} → OneStep z → read_back z ≡ z
read_back_lem nearer = refl
read_back_lem farther = refl

pub read_as : {y z : ℤ} → z ≡ y → OneStep y → read_back z ≡ y
read_as e step = ap read_back e ∙ read_back_lem step

-- ---- a tray's two distances

pub change-one_step : (new old : ℕ) → OneStep (change_of new old)
change-one_step new old = go (ltb new old)
  where
    go : (t : Bool) → OneStep (cond t (negsuc 0) (pos 1))
    go true = nearer
    go false = farther

pub to-one_step : (s : Shape) (b : List ℕ) (t : ℕ) → OneStep (change_to s b t)
to-one_step s b t = change-one_step (tray_distance s (empty_cell b) (at b t)) (tray_distance s t (at b t))

-- new and old are one apart, and new + before is old + then: so the lesser of them tells the change from before to then
told_by : (new old before then : ℕ) → OneApart new old → new + before ≡ old + then → pos then ≡ pos before +ℤ change_of new old
told_by new old before then apart sum = go (ltb new old) refl
  where
    go : (t : Bool) → ltb new old ≡ t → pos then ≡ pos before +ℤ cond t (negsuc 0) (pos 1)
    go true e = one_less then before (elim apart [ inl h ↦ omega (arith, ltb-true new old e) | inr h ↦ omega arith ])
    go false e = one_more then before (elim apart [ inl h ↦ omega arith | inr h ↦ omega (arith, ltb-false new old e) ])

-- ---- a move

-- its change, by the cell that it leads to
pub change_by_cell : (s : Shape) (b : List ℕ) (m t : ℕ) → t ≡ leads_to s (empty_cell b) m → change_to s b t ≡ change s b m
unfolding change
change_by_cell s b m t is = ap (λ (k : ℕ). change_to s b k) is

module _ (s : Shape) (b : List ℕ) (m : ℕ) (shape : GoodShape s) (board : IsBoard s b) (allowed : T (legal s b m)) where
  abbrev tray : ℕ
  tray = at b (target s b m)

  listed : {i : ℕ} → i < cells s → i < length b
  listed h = rw board.long h

  exchanged : tray_distance s (empty_cell b) tray + distance s b ≡ tray_distance s (target s b m) tray + distance s (after s b m)
  unfolding distance
  exchanged =
      rw (after_swaps s b m shape board allowed)
      (distance-swapped s b (empty_cell b) (target s b m) (target-elsewhere s b m shape board allowed)
      (listed (empty-inside s b shape board)) (listed (target-inside s b m shape board allowed)) (empty-holds_0 s b shape board))

  tray-apart : OneApart (tray_distance s (empty_cell b) tray) (tray_distance s (target s b m) tray)
  tray-apart =
      let stands = target-holds-tray s b m shape board allowed in
      rw (tray-between s (empty_cell b) tray stands, tray-between s (target s b m) tray stands)
      (step_between (legal_step s b m shape board allowed) tray)

  pub move-change : pos (distance s (after s b m)) ≡ pos (distance s b) +ℤ change s b m
  unfolding change
  move-change =
      told_by (tray_distance s (empty_cell b) tray) (tray_distance s (target s b m) tray) (distance s b) (distance s (after s b m))
      tray-apart exchanged

  pub move-one_step : OneStep (change s b m)
  unfolding change
  move-one_step = change-one_step (tray_distance s (empty_cell b) tray) (tray_distance s (target s b m) tray)

  -- what a move answers is its change
  pub answered-change : (r : Moved) → MovedBy s b m r → r.change ≡ change s b m
  answered-change r moved = one-change (distance s (after s b m)) (distance s b) moved.one_step move-one_step moved.sum move-change

-- along a legal list the first distance plus all changes is the last distance
pub list_distance : (s : Shape) → GoodShape s → (ms b : List ℕ) → IsBoard s b → LegalList s b ms
    → pos (distance s b) +ℤ changes s b ms ≡ pos (distance s (end_board s b ms))
unfolding changes
list_distance s shape [] b board plays = +ℤ_idr (pos (distance s b))
list_distance s shape (m ∷ ms) b board plays =
    sym (+ℤ_assoc (pos (distance s b)) (change s b m) (changes s (after s b m) ms))
    ∙ ap (λ (z : ℤ). z +ℤ changes s (after s b m) ms) (sym (move-change s b m shape board plays.0))
    ∙ list_distance s shape ms (after s b m) (after-board s b m shape board plays.0) plays.1
