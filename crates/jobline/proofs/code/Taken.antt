-- The loop that takes one cell after the other: what was taken so far and what the rest of the text still says make the whole.
-- First the beginning and a turn, then the ways out. Assumes nothing.
use Prim.Native.Nat.{ℕ, zero, suc, ◌+◌, ◌-◌, ◌≤◌, ◌<◌}
use native.Mathlib.Omega.{arith}
use mathlib.Core.Path.{◌≡◌, refl, ap, sym, ◌∙◌, subst, subst⁻¹}
use mathlib.Core.Bool.{Bool, true, false}
use mathlib.Core.List.{List, [], ◌∷◌, ◌++◌, append_assoc, append-nil}
use lib.ListN.{length, set, length-append}
use lib.Seq.{sets}
use Rattle.std.specs.Prelude.{Option, None, Some, option_map}
use Rattle.std.specs.Bool.{then_some}
use Rattle.jobline.specs.Scan.{read_field, ends, read_cells}
use Rattle.jobline.specs.Held.{Counted}
use Rattle.jobline.proofs.theory.Stores.{sets_snoc}

-- what was taken in front of what is found
abbrev joined : List ℕ → Option (List ℕ) → Option (List ℕ)
joined ns found = option_map (λ ms. ns ++ ms) found

joined_nil : (found : Option (List ℕ)) → found ≡ joined [] found
joined_nil None = refl
joined_nil (Some ms) = refl

-- the loop's state: the cells taken so far stand in front, and the rest of the text says what is still to come
pub record Taken (text old cells rest : List ℕ) (count : ℕ) : Type 0 where
  pub ns : List ℕ
  pub size : length ns ≡ count
  pub room : count ≤ 32
  pub front : cells ≡ sets old 0 ns
  pub whole : read_cells 32 text ≡ joined ns (read_cells (32 - count) rest)

-- what the rest says at its end, where there is no field, and of a cell more
cells-end : (k : ℕ) (rest : List ℕ) → ends rest ≡ true → read_cells k rest ≡ Some []
unfolding read_cells
cells-end zero rest e = rw e
cells-end (suc k) rest e = rw e

cells-full : (rest : List ℕ) → ends rest ≡ false → read_cells 0 rest ≡ None
unfolding read_cells
cells-full rest e = rw e

cells-bad : (k : ℕ) (rest : List ℕ) → ends rest ≡ false → read_field 255 rest ≡ None → read_cells k rest ≡ None
unfolding read_cells
cells-bad zero rest e f = rw e
cells-bad (suc k) rest e f = rw (e, f)

cells-more : (ns : List ℕ) (k : ℕ) (rest : List ℕ) (v : ℕ) (next : List ℕ) → ends rest ≡ false → read_field 255 rest ≡ Some (v, next)
    → joined ns (read_cells (suc k) rest) ≡ joined (ns ++ v ∷ []) (read_cells k next)
unfolding read_cells
cells-more ns k rest v next e f = rw (e, f) (go (read_cells k next))
  where
    go : (found : Option (List ℕ)) → joined ns (option_map (λ ms. v ∷ ms) found) ≡ joined (ns ++ v ∷ []) found
    go None = refl
    go (Some ms) = rw append_assoc

module _ (text old : List ℕ) where
  pub taken_none : Taken text old old text 0
  taken_none = record { ns = []; size = refl; room = omega arith; front = refl; whole = joined_nil (read_cells 32 text) }

  module _ (cells rest : List ℕ) (count : ℕ) (t : Taken text old cells rest count) where
    pub taken_more : (v : ℕ) (next : List ℕ) → ends rest ≡ false → count < 32 → read_field 255 rest ≡ Some (v, next)
        → Taken text old (set cells count v) next (count + 1)
    taken_more v next e below f =
        let step : 32 - count ≡ suc (32 - (count + 1)) = omega arith in
        record {
          ns = t.ns ++ v ∷ [];
          size = omega (arith, length-append t.ns (v ∷ []), t.size);
          room = omega arith;
          front = rw (t.front, ← t.size) (sym (sets_snoc old t.ns v));
          whole =
              t.whole
              ∙ ap (λ (k : ℕ). joined t.ns (read_cells k rest)) step
              ∙ cells-more t.ns (32 - (count + 1)) rest v next e f;
        }

    pub taken-end : ends rest ≡ true → Counted (read_cells 32 text) old (Some count) cells
    taken-end e =
        subst⁻¹ (λ (found : Option (List ℕ)). Counted found old (Some count) cells)
        (t.whole ∙ ap (joined t.ns) (cells-end (32 - count) rest e) ∙ ap Some (append-nil t.ns))
        (ap Some (sym t.size), t.front)

    taken-none-left : read_cells (32 - count) rest ≡ None → Counted (read_cells 32 text) old None cells
    taken-none-left e = rw (t.whole, e) refl

    pub taken-bad : ends rest ≡ false → read_field 255 rest ≡ None → Counted (read_cells 32 text) old None cells
    taken-bad e f = taken-none-left (cells-bad (32 - count) rest e f)

    -- at the last place the text ends, or there are too many
    pub taken-last : 32 ≤ count → Counted (read_cells 32 text) old (then_some (ends rest) 32) cells
    taken-last h = go (ends rest) refl
      where
        full : count ≡ 32
        full = omega (arith, t.room)

        go : (e : Bool) → ends rest ≡ e → Counted (read_cells 32 text) old (then_some e 32) cells
        go true e = subst (λ (n : ℕ). Counted (read_cells 32 text) old (Some n) cells) full (taken-end e)
        go false e =
            let none : 32 - count ≡ 0 = omega (arith, h) in
            taken-none-left (rw none (cells-full rest e))
