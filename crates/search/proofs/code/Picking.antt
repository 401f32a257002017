-- How the code picks a move: the first of the four whose value is the least, with the least of the other three. First which of two
-- choices is the better, then the least of four values, then the four cases. Assumes nothing.
use Prim.Native.Nat.{ℕ, ◌≤◌, ◌<◌, min}
use mathlib.Core.Path.{◌≡◌, refl, ap, sym, ◌∙◌, subst}
use mathlib.Core.Bool.{Bool, true, false, cond}
use mathlib.Core.List.{List, [], ◌∷◌}
use native.Mathlib.Omega.{arith}
use lib.Dec.{ltb}
use lib.ListN.{length, get_or}
use borrow.Author.Tests.{ltb-true, ltb-false, lt-ltb, le-ltb}
use Rattle.search.specs.declared.Choice.{Choice}
use Rattle.search.specs.declared.Pick.{Pick}
use Rattle.search.specs.Row.{infinity, better, best_of, best, masked, second}
use Rattle.search.specs.Run.{Picks}

abbrev choice : ℕ → ℕ → Choice
choice m v = record { step = m; value = v }

module _ (x y : Choice) where
  first-stays : x.value ≤ y.value → better x y ≡ x
  unfolding better
  first-stays h = rw (le-ltb y.value x.value h)

  second_wins : y.value < x.value → better x y ≡ y
  unfolding better
  second_wins h = rw (lt-ltb y.value x.value h)

  lesser-value : (better x y).value ≡ min x.value y.value
  unfolding better
  lesser-value = go (ltb y.value x.value) refl
    where
      go : (t : Bool) → ltb y.value x.value ≡ t → (cond t y x).value ≡ min x.value y.value
      go true e = omega (arith, ltb-true y.value x.value e)
      go false e = omega (arith, ltb-false y.value x.value e)

least-of-four : (a b c d : ℕ) → (best_of a b c d).value ≡ min (min a b) (min c d)
unfolding best_of
least-of-four a b c d =
    let ab = better (choice 0 a) (choice 1 b) in
    let abc = better ab (choice 2 c) in
    omega (arith, lesser-value (choice 0 a) (choice 1 b), lesser-value ab (choice 2 c), lesser-value abc (choice 3 d))

-- where none of the first three is the least, the fourth is below each of them, and so below the best of them
only_fourth : (a b c d : ℕ) → (a ≡ min (min a b) (min c d) → ⊥) → (b ≡ min (min a b) (min c d) → ⊥)
    → (c ≡ min (min a b) (min c d) → ⊥) → (d < min a b) × (d < c)
only_fourth a b c d not0 not1 not2 = (omega arith, omega arith)

below-best : (a b c d x y : ℕ) → x ≡ min a b → y ≡ min x c → (d < min a b) × (d < c) → d < y
below-best a b c d x y e f h = omega arith

-- a value is as it is beside infinity
beside : (x : ℕ) → x ≤ infinity → x ≡ min x infinity
beside x h = omega arith

module _ (a b c d : ℕ) where
  abbrev row : List ℕ
  row = a ∷ b ∷ c ∷ d ∷ []

  -- where the best move is known, so is the second least
  known : (m v : ℕ) → best_of a b c d ≡ choice m v → (s : ℕ)
      → s ≡ (best_of (masked m 0 a) (masked m 1 b) (masked m 2 c) (masked m 3 d)).value
      → Picks row (record { step = m; second = s })
  unfolding best second
  known m v e s f =
      let step = ap (λ (x : Choice). x.step) e in
      record {
        is_best = sym step;
        is_second = f ∙ ap (λ (k : ℕ). (best_of (masked k 0 a) (masked k 1 b) (masked k 2 c) (masked k 3 d)).value) (sym step);
      }

  module _ (least s : ℕ) (is : least ≡ (best_of a b c d).value) where
    four : least ≡ min (min a b) (min c d)
    four = is ∙ least-of-four a b c d

    pub picks_first : a ≡ least → b ≤ infinity → s ≡ min b (min c d) → Picks row (record { step = 0; second = s })
    unfolding best_of masked
    picks_first e small f =
        known 0 a
        (rw (first-stays (choice 0 a) (choice 1 b) (omega (arith, four)), first-stays (choice 0 a) (choice 2 c) (omega (arith, four)))
        (first-stays (choice 0 a) (choice 3 d) (omega (arith, four)))) s (omega (arith, least-of-four infinity b c d))

    module _ (not0 : a ≡ least → ⊥) where
      pub picks_second : b ≡ least → a ≤ infinity → s ≡ min a (min c d) → Picks row (record { step = 1; second = s })
      unfolding best_of masked
      picks_second e small f =
          known 1 b
          (rw (second_wins (choice 0 a) (choice 1 b) (omega (arith, four)), first-stays (choice 1 b) (choice 2 c) (omega (arith, four)))
          (first-stays (choice 1 b) (choice 3 d) (omega (arith, four)))) s (omega (arith, least-of-four a infinity c d))

      module _ (not1 : b ≡ least → ⊥) where
        abbrev ab : Choice
        ab = better (choice 0 a) (choice 1 b)

        pub picks_third : c ≡ least → d ≤ infinity → s ≡ min (min a b) d → Picks row (record { step = 2; second = s })
        unfolding best_of masked
        picks_third e small f =
            known 2 c
            (rw (second_wins ab (choice 2 c) (omega (arith, four, lesser-value (choice 0 a) (choice 1 b))))
            (first-stays (choice 2 c) (choice 3 d) (omega (arith, four)))) s (omega (arith, least-of-four a b infinity d))

        pub picks_fourth : (c ≡ least → ⊥) → c ≤ infinity → s ≡ min (min a b) c → Picks row (record { step = 3; second = s })
        unfolding best_of masked
        picks_fourth not2 small f =
            known 3 d
            (second_wins (better ab (choice 2 c)) (choice 3 d)
            (below-best a b c d _ _ (lesser-value (choice 0 a) (choice 1 b)) (lesser-value ab (choice 2 c))
            (only_fourth a b c d (λ e. not0 (e ∙ sym four)) (λ e. not1 (e ∙ sym four)) (λ e. not2 (e ∙ sym four))))) s
            (f ∙ ap (min (min a b)) (beside c small) ∙ sym (least-of-four a b c infinity))

-- ---- a row by its four numbers

by-four : (r : List ℕ) → length r ≡ 4 → r ≡ get_or r 0 0 ∷ get_or r 1 0 ∷ get_or r 2 0 ∷ get_or r 3 0 ∷ []
by-four [] e = absurd (omega arith)
by-four (a ∷ []) e = absurd (omega arith)
by-four (a ∷ b ∷ []) e = absurd (omega arith)
by-four (a ∷ b ∷ c ∷ []) e = absurd (omega arith)
by-four (a ∷ b ∷ c ∷ d ∷ []) e = refl
by-four (a ∷ b ∷ c ∷ d ∷ x ∷ r) e = absurd (omega arith)

module _ (r : List ℕ) (long : length r ≡ 4) where
  pub best-row : best_of (get_or r 0 0) (get_or r 1 0) (get_or r 2 0) (get_or r 3 0) ≡ best r
  unfolding best
  best-row = sym (ap best (by-four r long))

  pub least-row : (least : ℕ) → least ≡ (best r).value
      → least ≡ (best_of (get_or r 0 0) (get_or r 1 0) (get_or r 2 0) (get_or r 3 0)).value
  least-row least is = is ∙ ap (λ (x : Choice). x.value) (sym best-row)

  pub picks-row : (x : Pick) → Picks (get_or r 0 0 ∷ get_or r 1 0 ∷ get_or r 2 0 ∷ get_or r 3 0 ∷ []) x → Picks r x
  picks-row x p = subst (λ (l : List ℕ). Picks l x) (sym (by-four r long)) p
