-- A move on the grid, before any board: which row and column it leads to. `Step` says what each of the four moves does to the
-- empty cell's row and column; the moves that stay on the grid are the steps, a step back is the move 3 - m, and a step changes
-- the sum of row and column by one. Widths are matched, so that rows and columns are quotients by numerals. Assumes nothing.
use Prim.Native.Nat.{ℕ, zero, suc, ◌+◌, ◌-◌, ◌*◌, ◌/◌, ◌%◌, ◌<◌}
use mathlib.Core.Path.{◌≡◌, sym, ◌∙◌, ap, ap₂}
use mathlib.Core.Logic.{◌≢◌, inl, inr}
use native.Mathlib.Nat.{div-add-mod, div-lt_iff_lt-mul, mul_comm}
use native.Mathlib.Omega.{arith}
use lib.Dec.{T, ltb→lt, lt→ltb}
use Rattle.board.specs.declared.Shape.{Shape}
use Rattle.board.specs.Shape.{cells, row, column, Side, two, three, four, GoodShape}
use Rattle.board.specs.Moves.{stays_on, leads_to}
use Rattle.board.proofs.theory.Sides.{side_within, cell_row, cell-column}
use Rattle.board.proofs.theory.OneApart.{OneApart}

-- move m leads from cell e to cell t
pub data Step (s : Shape) (e t : ℕ) : ℕ → Type 0 where
  up : row s e ≡ suc (row s t) → column s e ≡ column s t → Step s e t 0
  left : row s e ≡ row s t → column s e ≡ suc (column s t) → Step s e t 1
  right : row s e ≡ row s t → column s t ≡ suc (column s e) → Step s e t 2
  down : row s t ≡ suc (row s e) → column s e ≡ column s t → Step s e t 3

-- ---- the four moves, in rows and columns

above : {w : ℕ} → Side w → (e : ℕ) → 0 < e / w → (e / w ≡ suc ((e - w) / w)) × (e % w ≡ (e - w) % w)
above two e h = omega arith
above three e h = omega arith
above four e h = omega arith

before : {w : ℕ} → Side w → (e : ℕ) → 0 < e % w → (e / w ≡ (e - 1) / w) × (e % w ≡ suc ((e - 1) % w))
before two e h = omega arith
before three e h = omega arith
before four e h = omega arith

behind : {w : ℕ} → Side w → (e : ℕ) → e % w + 1 < w → (e / w ≡ (e + 1) / w) × ((e + 1) % w ≡ suc (e % w))
behind two e h = omega arith
behind three e h = omega arith
behind four e h = omega arith

below : {w : ℕ} → Side w → (e : ℕ) → ((e + w) / w ≡ suc (e / w)) × (e % w ≡ (e + w) % w)
below two e = omega arith
below three e = omega arith
below four e = omega arith

module _ (s : Shape) (shape : GoodShape s) where
  -- ---- a cell is its row and its column

  positive : 0 < s.width
  positive = omega (arith, side_within shape.wide)

  pub inside-row : (i : ℕ) → row s i < s.height → i < cells s
  inside-row i h = rw mul_comm at ((div-lt_iff_lt-mul positive).0 h)

  pub same_place : (i j : ℕ) → row s i ≡ row s j → column s i ≡ column s j → i ≡ j
  same_place i j p q = sym (div-add-mod i s.width) ∙ ap₂ (λ r c. s.width * r + c) p q ∙ div-add-mod j s.width

  -- ---- the moves that stay on the grid are the steps

  pub leads_by_step : (e m : ℕ) → T (stays_on s e m) → Step s e (leads_to s e m) m
  unfolding stays_on leads_to
  leads_by_step e zero h = let p = above shape.wide e (ltb→lt _ _ h) in up p.0 p.1
  leads_by_step e (suc zero) h = let p = before shape.wide e (ltb→lt _ _ h) in left p.0 p.1
  leads_by_step e (suc (suc zero)) h = let p = behind shape.wide e (ltb→lt _ _ h) in right p.0 p.1
  leads_by_step e (suc (suc (suc zero))) h = let p = below shape.wide e in down p.0 p.1
  leads_by_step e (suc (suc (suc (suc m)))) h = absurd h

  step_inside : (e t m : ℕ) → e < cells s → T (stays_on s e m) → Step s e t m → t < cells s
  unfolding stays_on
  step_inside e t m l h (up r c) = inside-row t (omega (arith, cell_row shape e l))
  step_inside e t m l h (left r c) = inside-row t (omega (arith, cell_row shape e l))
  step_inside e t m l h (right r c) = inside-row t (omega (arith, cell_row shape e l))
  step_inside e t m l h (down r c) = inside-row t (omega (arith, ltb→lt))

  pub leads_inside : (e m : ℕ) → e < cells s → T (stays_on s e m) → leads_to s e m < cells s
  leads_inside e m l h = step_inside e (leads_to s e m) m l h (leads_by_step e m h)

  pub step_stays : (e t m : ℕ) → t < cells s → Step s e t m → T (stays_on s e m)
  unfolding stays_on
  step_stays e t m l (up r c) = omega (arith, lt→ltb)
  step_stays e t m l (left r c) = omega (arith, lt→ltb)
  step_stays e t m l (right r c) = omega (arith, lt→ltb, cell-column shape t)
  step_stays e t m l (down r c) = omega (arith, lt→ltb, cell_row shape t l)

  step_unique : {e t u m : ℕ} → Step s e t m → Step s e u m → t ≡ u
  step_unique {t = t} {u = u} (up r c) (up q d) = same_place t u (omega arith) (omega arith)
  step_unique {t = t} {u = u} (left r c) (left q d) = same_place t u (omega arith) (omega arith)
  step_unique {t = t} {u = u} (right r c) (right q d) = same_place t u (omega arith) (omega arith)
  step_unique {t = t} {u = u} (down r c) (down q d) = same_place t u (omega arith) (omega arith)

  pub step_leads : (e t m : ℕ) → t < cells s → Step s e t m → leads_to s e m ≡ t
  step_leads e t m l p = step_unique (leads_by_step e m (step_stays e t m l p)) p

-- ---- what a step is, for every shape

module _ {s : Shape} where
  pub step_back : {e t m : ℕ} → Step s e t m → Step s t e (3 - m)
  step_back (up r c) = down r (sym c)
  step_back (left r c) = right (sym r) c
  step_back (right r c) = left (sym r) c
  step_back (down r c) = up r (sym c)

  pub step_number : {e t m : ℕ} → Step s e t m → m < 4
  step_number (up r c) = omega arith
  step_number (left r c) = omega arith
  step_number (right r c) = omega arith
  step_number (down r c) = omega arith

  -- the sum of row and column changes by one
  pub step_sum : {e t m : ℕ} → Step s e t m → OneApart (row s e + column s e) (row s t + column s t)
  step_sum (up r c) = inl (omega arith)
  step_sum (left r c) = inl (omega arith)
  step_sum (right r c) = inr (omega arith)
  step_sum (down r c) = inr (omega arith)

  pub step_elsewhere : {e t m : ℕ} → Step s e t m → t ≢ e
  step_elsewhere p q =
      let same = ap (λ i. row s i + column s i) q in
      elim (step_sum p) [ inl h ↦ omega arith | inr h ↦ omega arith ]
