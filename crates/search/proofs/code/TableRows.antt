-- How the rows lie in the table, four numbers for each depth: what reading a row's entries gives, what storing one or all four of
-- them makes of it, and that a row depends on the part of the table up to its end. Assumes nothing.
use Prim.Native.Nat.{ℕ, zero, suc, ◌+◌, ◌*◌, ◌-◌, ◌≤◌, ◌<◌}
use mathlib.Core.Path.{◌≡◌, ap, sym, ◌∙◌}
use mathlib.Core.List.{List, [], ◌∷◌, ◌++◌, append_assoc}
use native.Mathlib.Nat.{add-zero, zero-add, suc-add}
use native.Mathlib.Numerals.{add-one, add-two, add-three}
use native.Mathlib.Omega.{arith}
use lib.ListN.{length, take, drop, set}
use lib.Seq.{take-take, take-nil, take_at, drop_at, length-take-le}
use lib.Seq.{take-set-le, take-set-lt, drop-set-add, sets-eq}
use Rattle.search.specs.declared.Job.{Job}
use Rattle.search.specs.Run.{Room, row_at, put_row}

-- buffers of the same lengths have the same room
pub room-kept : {job : Job} {table moves table' moves' : List ℕ} → Room job table moves → length table' ≡ length table
    → length moves' ≡ length moves → Room job table' moves'
room-kept room rows path = record { rows = omega (arith, room.rows); path = omega (arith, room.path) }

-- there is room for the row of each depth up to the ceiling
pub row_fits : {job : Job} {table moves : List ℕ} {g : ℕ} → Room job table moves → g ≤ job.ceiling → 4 * (g + 1) ≤ length table
row_fits room h = omega (arith, room.rows)

take-of-drop : (n m : ℕ) (l : List ℕ) → take m (drop n l) ≡ drop n (take (n + m) l)
take-of-drop zero m l = ap (λ (k : ℕ). take k l) (sym (zero-add m))
take-of-drop (suc n) m [] = take-nil m ∙ ap (drop (suc n)) (sym (take-nil (suc n + m)))
take-of-drop (suc n) m (x ∷ xs) = take-of-drop n m xs ∙ ap (λ (k : ℕ). drop (suc n) (take k (x ∷ xs))) (sym (suc-add n m))

-- the first m values v stored from a place on
abbrev pub stored : (ℕ → ℕ) → List ℕ → ℕ → ℕ → List ℕ
stored v table at zero = table
stored v table at (suc m) = set (stored v table at m) (at + m) (v m)

-- the row of depth g, as the code lends it
abbrev pub lent_row : List ℕ → ℕ → List ℕ
lent_row table g = take (4 * (g + 1) - 4 * g) (drop (4 * g) table)

module _ (table : List ℕ) (g : ℕ) where
  pub lent-row : lent_row table g ≡ row_at table g
  lent-row = let four : 4 * (g + 1) - 4 * g ≡ 4 = omega arith in ap (λ (k : ℕ). take k (drop (4 * g) table)) four

  -- ---- one value stored

  pub row-set : (m v : ℕ) → m < 4 → row_at (set table (4 * g + m) v) g ≡ set (row_at table g) m v
  row-set m v small = ap (take 4) (drop-set-add (4 * g) table m v) ∙ take-set-lt 4 (drop (4 * g) table) m v small

  pub below_set : (m v : ℕ) → take (4 * g) (set table (4 * g + m) v) ≡ take (4 * g) table
  below_set m v = take-set-le (4 * g) table (4 * g + m) v (omega arith)

  -- ---- all four stored

  pub all-stored : (v : ℕ → ℕ) (m : ℕ) → m ≡ 4 → 4 * (g + 1) ≤ length table
      → stored v table (4 * g) m ≡ put_row table g (v 0 ∷ v 1 ∷ v 2 ∷ v 3 ∷ [])
  all-stored v m all fits =
      rw (all, add-zero (4 * g), add-one (4 * g), add-two (4 * g), add-three (4 * g))
      (sets-eq (v 0 ∷ v 1 ∷ v 2 ∷ v 3 ∷ []) table (4 * g) (omega arith)
      ∙ append_assoc (take (4 * g) table) (v 0 ∷ v 1 ∷ v 2 ∷ v 3 ∷ []) (drop (4 * g + 4) table))

  pub row_put : (r : List ℕ) → length r ≡ 4 → 4 * g ≤ length table → row_at (put_row table g r) g ≡ r
  row_put r long fits =
      ap (take 4) (drop_at (take (4 * g) table) (r ++ drop (4 * g + 4) table) (4 * g) (length-take-le (4 * g) table fits))
      ∙ take_at r (drop (4 * g + 4) table) 4 long

  pub below_put : (r : List ℕ) → 4 * g ≤ length table → take (4 * g) (put_row table g r) ≡ take (4 * g) table
  below_put r fits = take_at (take (4 * g) table) (r ++ drop (4 * g + 4) table) (4 * g) (length-take-le (4 * g) table fits)

-- ---- what the rows up to depth g settle

module _ (table table' : List ℕ) (g : ℕ) (same : take (4 * suc g) table' ≡ take (4 * suc g) table) where
  pub row_kept : row_at table' g ≡ row_at table g
  row_kept =
      let up_to : 4 * g + 4 ≡ 4 * suc g = omega arith in
      take-of-drop (4 * g) 4 table'
      ∙ ap (λ (k : ℕ). drop (4 * g) (take k table')) up_to
      ∙ ap (drop (4 * g)) same
      ∙ ap (λ (k : ℕ). drop (4 * g) (take k table)) (sym up_to)
      ∙ sym (take-of-drop (4 * g) 4 table)

  pub below-kept : take (4 * g) table' ≡ take (4 * g) table
  below-kept =
      sym (take-take (4 * g) (4 * suc g) table' (omega arith)) ∙ ap (take (4 * g)) same ∙ take-take (4 * g) (4 * suc g) table (omega arith)
