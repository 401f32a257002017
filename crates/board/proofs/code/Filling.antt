-- How a shape's own table is filled, cell by cell: a run of entries, put one after the other, and the cells below e, with 0 behind them.
-- First what the definition says of a cell's entries. Assumes nothing.
use Prim.Native.Nat.{ℕ, zero, suc, ◌+◌, ◌*◌, ◌-◌, ◌/◌, ◌%◌, ◌≤◌, ◌<◌}
use mathlib.Core.Path.{◌≡◌, refl, sym, ap, ◌∙◌}
use mathlib.Core.Bool.{Bool, true, false}
use mathlib.Core.List.{List}
use native.Mathlib.Omega.{arith}
use lib.Dec.{ltb}
use lib.ListN.{length, get_or, set, replicate, length-set}
use lib.Seq.{get_or-set_same, get_or-set_other}
use borrow.Author.Count.{below_more}
use borrow.Author.Tests.{lt-ltb, le-ltb, ltb-true, ltb-false}
use Rattle.board.specs.declared.Shape.{Shape}
use Rattle.board.specs.Shape.{cells, GoodShape}
use Rattle.board.specs.Distance.{tray_distance, way_at, cell_at, near_at, NearTable, RunPut}
use Rattle.board.proofs.theory.Sides.{cells-within}

-- ---- a cell's entries

module _ (s : Shape) (e j : ℕ) where
  tray-entry : j < 16 → j < cells s → tray_distance s e j ≡ cell_at s e j
  unfolding cell_at
  tray-entry low inside = simp (lt-ltb j 16 low, lt-ltb j (cells s) inside)

  no_tray-entry : j < 16 → cells s ≤ j → 0 ≡ cell_at s e j
  unfolding cell_at
  no_tray-entry low past = simp (lt-ltb j 16 low, le-ltb j (cells s) past)

  way-entry-at : 16 ≤ j → j < 36 → way_at s e (j - 16) ≡ cell_at s e j
  unfolding cell_at
  way-entry-at low high = simp (le-ltb j 16 low, lt-ltb j 36 high)

  none-behind : 36 ≤ j → 0 ≡ cell_at s e j
  unfolding cell_at
  none-behind past = simp (le-ltb j 16 (omega arith), le-ltb j 36 past)

  cell-of : e < cells s → j < 64 → cell_at s e j ≡ near_at s (64 * e + j)
  unfolding near_at
  cell-of below few =
      let cell : (64 * e + j) / 64 ≡ e = omega arith in
      let place : (64 * e + j) % 64 ≡ j = omega arith in
      simp (cell, place, lt-ltb e (cells s) below)

no_cell : (s : Shape) (k : ℕ) → cells s ≤ k / 64 → 0 ≡ near_at s k
unfolding near_at
no_cell s k past = simp (le-ltb (k / 64) (cells s) past)

-- ---- a run of entries, as far as it is put

module _ (f : ℕ → ℕ) (place : ℕ) (before : List ℕ) where
  pub one-put : (near : List ℕ) (j x : ℕ) → RunPut f place j before near → place + j < length near → x ≡ f j
      → RunPut f place (j + 1) before (set near (place + j) x)
  one-put near j x p inside is =
      record {
        long = length-set near (place + j) x ∙ p.long;
        put =
            below_more (λ (i : ℕ). get_or (set near (place + j) x) (place + i) 0 ≡ f i) j
            (λ i l. get_or-set_other near (place + j) (place + i) x 0 (λ q. omega arith) ∙ p.put i l)
            (get_or-set_same near (place + j) x 0 inside ∙ is);
        earlier = λ k l. get_or-set_other near (place + j) k x 0 (λ q. omega arith) ∙ p.earlier k l;
        later = λ k l. get_or-set_other near (place + j) k x 0 (λ q. omega arith) ∙ p.later k (omega arith);
      }

-- ---- the whole table: the cells below e are put, and behind them all is 0

pub record Filled (s : Shape) (near : List ℕ) (e : ℕ) : Type 0 where
  pub within : e ≤ cells s
  pub long : length near ≡ 1024
  pub passed : (k : ℕ) → k < 64 * e → get_or near k 0 ≡ near_at s k
  pub rest : (k : ℕ) → 64 * e ≤ k → get_or near k 0 ≡ 0

zeros : (n k : ℕ) → ◌≡◌ {A = ℕ} (get_or (replicate n 0) k 0) 0
zeros zero k = refl
zeros (suc n) zero = refl
zeros (suc n) (suc k) = zeros n k

pub none_filled : (s : Shape) → Filled s (replicate 1024 0) 0
none_filled s =
    record { within = omega arith; long = refl; passed = λ k l. absurd (omega arith); rest = λ k l. zeros 1024 k }

module _ (s : Shape) (near : List ℕ) (e : ℕ) (filled : Filled s near e) where
  module _ (good : GoodShape s) (below : e < cells s) (near₁ near₂ : List ℕ)
      (trays : RunPut (tray_distance s e) (64 * e) (cells s) near near₁)
      (ways : RunPut (way_at s e) (64 * e + 16) 20 near₁ near₂) where
    -- entry j of the cell e
    module _ (j : ℕ) (few : j < 64) where
      -- behind what is put of each run there is 0
      untouched : cells s ≤ j → get_or near₁ (64 * e + j) 0 ≡ 0
      untouched past = trays.later (64 * e + j) (omega arith) ∙ filled.rest (64 * e + j) (omega arith)

      below_16 : j < 16 → get_or near₂ (64 * e + j) 0 ≡ cell_at s e j
      below_16 low = ways.earlier (64 * e + j) (omega arith) ∙ go (ltb j (cells s)) refl
        where
          go : (t : Bool) → ltb j (cells s) ≡ t → get_or near₁ (64 * e + j) 0 ≡ cell_at s e j
          go true q = trays.put j (ltb-true _ _ q) ∙ tray-entry s e j low (ltb-true _ _ q)
          go false q = untouched (ltb-false _ _ q) ∙ no_tray-entry s e j low (ltb-false _ _ q)

      from_16 : 16 ≤ j → get_or near₂ (64 * e + j) 0 ≡ cell_at s e j
      from_16 low = go (ltb j 36) refl
        where
          at : 64 * e + j ≡ 64 * e + 16 + (j - 16)
          at = omega arith

          go : (t : Bool) → ltb j 36 ≡ t → get_or near₂ (64 * e + j) 0 ≡ cell_at s e j
          go true q =
              let high : j < 36 = ltb-true _ _ q in
              ap (λ (i : ℕ). get_or near₂ i 0) at ∙ ways.put (j - 16) (omega arith) ∙ way-entry-at s e j low high
          go false q =
              let past : 36 ≤ j = ltb-false _ _ q in
              ways.later (64 * e + j) (omega arith)
              ∙ untouched (omega (arith, cells-within good))
              ∙ none-behind s e j past

      of-cell : get_or near₂ (64 * e + j) 0 ≡ near_at s (64 * e + j)
      of-cell = go (ltb j 16) refl ∙ cell-of s e j below few
        where
          go : (t : Bool) → ltb j 16 ≡ t → get_or near₂ (64 * e + j) 0 ≡ cell_at s e j
          go true q = below_16 (ltb-true _ _ q)
          go false q = from_16 (ltb-false _ _ q)

    up-to-cell : (k : ℕ) → k < 64 * (e + 1) → get_or near₂ k 0 ≡ near_at s k
    up-to-cell k high = go (ltb k (64 * e)) refl
      where
        go : (t : Bool) → ltb k (64 * e) ≡ t → get_or near₂ k 0 ≡ near_at s k
        go true q =
            let low : k < 64 * e = ltb-true _ _ q in
            ways.earlier k (omega arith) ∙ trays.earlier k low ∙ filled.passed k low
        go false q =
            let low : 64 * e ≤ k = ltb-false _ _ q in
            let at : k ≡ 64 * e + (k - 64 * e) = omega arith in
            ap (λ (i : ℕ). get_or near₂ i 0) at ∙ of-cell (k - 64 * e) (omega arith) ∙ ap (near_at s) (sym at)

    pub one_filled : Filled s near₂ (e + 1)
    one_filled =
        record {
          within = omega arith;
          long = ways.long ∙ trays.long ∙ filled.long;
          passed = up-to-cell;
          rest =
              λ k l. ways.later k (omega arith)
              ∙ trays.later k (omega (arith, cells-within good))
              ∙ filled.rest k (omega arith);
        }

  pub all_filled : cells s ≤ e → NearTable s near
  all_filled past = record { long = filled.long; entry = λ k below. go k (ltb k (64 * e)) refl }
    where
      go : (k : ℕ) (t : Bool) → ltb k (64 * e) ≡ t → get_or near k 0 ≡ near_at s k
      go k true q = filled.passed k (ltb-true _ _ q)
      go k false q =
          let low : 64 * e ≤ k = ltb-false _ _ q in
          filled.rest k low ∙ no_cell s k (omega arith)
