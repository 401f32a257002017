-- What `first_of f i k` is: the only number that `IsFirst` fits. First its two turns, then that characterisation and that it
-- decides the number; and what follows from it: the laws one by one, the converse, the turns of a loop that has passed the
-- numbers below j, equal tests, and what `position` finds in a list. Rests on the definition of `first_of` alone. Assumes nothing.
use Prim.Native.Nat.{ℕ, zero, suc, ◌+◌, ◌-◌, ◌≤◌, ◌<◌}
use mathlib.Core.Path.{◌≡◌, refl, sym, ap, ◌∙◌}
use mathlib.Core.Bool.{Bool, true, false, true≢false, cond, not}
use mathlib.Core.List.{List, [], ◌∷◌}
use mathlib.Core.Logic.{◌⊎◌, inl, inr}
use native.Mathlib.Nat.{eq-or-lt_of_le}
use native.Mathlib.Decide.{dec_lt}
use native.Mathlib.Omega.{arith}
use lib.ListN.{length}
use lib.Dec.{ltb}
use borrow.Author.Tests.{lt-ltb, le-ltb}
use Rattle.std.specs.Prelude.{Some, None, is_some}
use Rattle.std.specs.List.{position, position_or_len}
use Rattle.board.specs.First.{first_of, found}
use Rattle.board.specs.Board.{at}

-- r is the first of i, i + 1, .. (k numbers in all) at which f holds, or i + k where it holds at none
pub record IsFirst (f : ℕ → Bool) (i k r : ℕ) : Type 0 where
  pub low : i ≤ r
  pub high : r ≤ i + k
  pub holds : r < i + k → f r ≡ true
  pub fails : (j : ℕ) → i ≤ j → j < r → f j ≡ false

module _ (f : ℕ → Bool) where
  -- ---- one turn

  pub first_of_here : (i k : ℕ) → f i ≡ true → first_of f i (suc k) ≡ i
  unfolding first_of
  first_of_here i k e = rw e

  pub first_of_next : (i k : ℕ) → f i ≡ false → first_of f i (suc k) ≡ first_of f (suc i) k
  unfolding first_of
  first_of_next i k e = rw e

  -- ---- the characterisation

  here : (i k : ℕ) → f i ≡ true → IsFirst f i (suc k) i
  here i k e = record { low = omega arith; high = omega arith; holds = λ h. e; fails = λ j h l. absurd (omega arith) }

  -- where f fails at i, the first from i on is the first from i + 1 on
  next : (i k r : ℕ) → f i ≡ false → IsFirst f (suc i) k r → IsFirst f i (suc k) r
  next i k r e c =
      record {
        low = omega arith;
        high = omega arith;
        holds = λ h. c.holds (omega arith);
        fails = λ j h l. go j l (eq-or-lt_of_le h);
      }
    where
      go : (j : ℕ) → j < r → (i ≡ j) ⊎ (i < j) → f j ≡ false
      go j l (inl p) = rw (← p) e
      go j l (inr h) = c.fails j h l

  pub first_of_first : (i k : ℕ) → IsFirst f i k (first_of f i k)
  unfolding first_of
  first_of_first i zero =
      record {
        low = omega arith;
        high = omega arith;
        holds = λ h. absurd (omega arith);
        fails = λ j h l. absurd (omega arith);
      }
  first_of_first i (suc k) = go (f i) refl (first_of_first (suc i) k)
    where
      go : (t : Bool) → f i ≡ t → IsFirst f (suc i) k (first_of f (suc i) k) → IsFirst f i (suc k) (first_of f i (suc k))
      go true e c = rw first_of_here (here i k e)
      go false e c = rw first_of_next (next i k _ e c)

  not-below : {i k r q : ℕ} → IsFirst f i k r → IsFirst f i k q → ¬ (r < q)
  not-below {r} c d h = true≢false (sym (c.holds (omega arith)) ∙ d.fails r c.low h)

  first_unique : {i k r q : ℕ} → IsFirst f i k r → IsFirst f i k q → r ≡ q
  first_unique c d = omega (arith, not-below c d, not-below d c)

  pub first_of_is : (i k r : ℕ) → IsFirst f i k r → first_of f i k ≡ r
  first_of_is i k r c = first_unique (first_of_first i k) c

  -- ---- the laws one by one

  pub first_of_low : (i k : ℕ) → i ≤ first_of f i k
  first_of_low i k = (first_of_first i k).low

  pub first_of_high : (i k : ℕ) → first_of f i k ≤ i + k
  first_of_high i k = (first_of_first i k).high

  pub first_of_holds : (i k : ℕ) → first_of f i k < i + k → f (first_of f i k) ≡ true
  first_of_holds i k = (first_of_first i k).holds

  pub first_of_fails : (i k j : ℕ) → i ≤ j → j < first_of f i k → f j ≡ false
  first_of_fails i k = (first_of_first i k).fails

  -- ---- the converse

  pub first_of_found : (i k j : ℕ) → i ≤ j → j < i + k → ((n : ℕ) → i ≤ n → n < j → f n ≡ false) → f j ≡ true → first_of f i k ≡ j
  first_of_found i k j low high below e =
      first_of_is i k j (record { low = low; high = omega arith; holds = λ h. e; fails = below })

  pub first_of_none : (i k : ℕ) → ((n : ℕ) → i ≤ n → n < i + k → f n ≡ false) → first_of f i k ≡ i + k
  first_of_none i k fails =
      first_of_is i k (i + k) (record { low = omega arith; high = omega arith; holds = λ h. absurd (omega arith); fails = fails })

  -- ---- a loop over the numbers below k that has passed those below j

  pub first_of_passed : (j k : ℕ) → j ≤ k → ((n : ℕ) → n < j → f n ≡ false) → first_of f 0 k ≡ first_of f j (k - j)
  first_of_passed j k h below = first_of_is 0 k (first_of f j (k - j)) (go (first_of f j (k - j)) (first_of_first j (k - j)))
    where
      go : (r : ℕ) → IsFirst f j (k - j) r → IsFirst f 0 k r
      go r c =
          record {
            low = omega arith;
            high = omega arith;
            holds = λ l. c.holds (omega arith);
            fails = λ n z u. elim (dec_lt n j) [ yes l ↦ below n l | no l ↦ c.fails n (omega arith) u ];
          }

  pub first_of_stops : (j k : ℕ) → j < k → f j ≡ true → first_of f j (k - j) ≡ j
  first_of_stops j k h e = first_of_found j (k - j) j (omega arith) (omega arith) (λ n l u. absurd (omega arith)) e

  pub first_of_goes-on : (j k : ℕ) → j < k → f j ≡ false → first_of f j (k - j) ≡ first_of f (suc j) (k - suc j)
  first_of_goes-on j k h e =
      let s : k - j ≡ suc (k - suc j) = omega arith in
      rw s (first_of_next j (k - suc j) e)

  pub first_of_ends : (k : ℕ) → first_of f k (k - k) ≡ k
  first_of_ends k = first_of_none k (k - k) (λ n l u. absurd (omega arith)) ∙ omega arith

-- tests that agree on the range have the same first
pub first_of_cong : (f g : ℕ → Bool) (i k : ℕ) → ((n : ℕ) → i ≤ n → n < i + k → f n ≡ g n) → first_of f i k ≡ first_of g i k
first_of_cong f g i k same = first_of_is f i k (first_of g i k) (go (first_of g i k) (first_of_first g i k))
  where
    go : (r : ℕ) → IsFirst g i k r → IsFirst f i k r
    go r c =
        record {
          low = c.low;
          high = c.high;
          holds = λ h. same r c.low h ∙ c.holds h;
          fails = λ j l h. same j l (omega arith) ∙ c.fails j l h;
        }

-- ---- a place is found exactly below the bound

pub found_below : (n i : ℕ) → i < n → Some i ≡ found n i
found_below n i h = simp (lt-ltb i n h)

pub found_past : (n i : ℕ) → n ≤ i → None ≡ found n i
found_past n i h = simp (le-ltb i n h)

pub found_tells : (n i : ℕ) → is_some (found n i) ≡ ltb i n
found_tells n i = go (ltb i n)
  where
    go : (t : Bool) → is_some (cond t (Some i) None) ≡ t
    go true = refl
    go false = refl

pub found_is : (n i j : ℕ) → found n i ≡ Some j → (i ≡ j) × (ltb j n ≡ true)
found_is n i j e = go (ltb i n) refl e
  where
    go : (t : Bool) → ltb i n ≡ t → cond t (Some i) None ≡ Some j → (i ≡ j) × (ltb j n ≡ true)
    go true q e = let same : i ≡ j = cc in (same, rw (← same) q)
    go false q e = cc

pub none-found : (n i : ℕ) → found n i ≡ None → ltb i n ≡ false
none-found n i e = go (ltb i n) refl e
  where
    go : (t : Bool) → ltb i n ≡ t → cond t (Some i) None ≡ None → ltb i n ≡ false
    go true q e = cc
    go false q e = q

-- ---- the first element of a list that passes a test

-- one number more at each place
first_of_later : (f : ℕ → Bool) (i k : ℕ) → first_of f (suc i) k ≡ suc (first_of (λ j. f (suc j)) i k)
unfolding first_of
first_of_later f i zero = refl
first_of_later f i (suc k) = go (f (suc i)) (first_of_later f (suc i) k)
  where
    go : (t : Bool) {r q : ℕ} → r ≡ suc q → cond t (suc i) r ≡ suc (cond t i q)
    go true e = refl
    go false e = e

pub first_position : (p : ℕ → Bool) (xs : List ℕ) → position_or_len p xs ≡ first_of (λ i. p (at xs i)) 0 (length xs)
unfolding first_of
first_position p [] = refl
first_position p (x ∷ xs) = go (p x) (ap suc (first_position p xs) ∙ sym (first_of_later (λ i. p (at (x ∷ xs) i)) 0 (length xs)))
  where
    go : (t : Bool) {r q : ℕ} → suc r ≡ q → cond (not t) (1 + r) 0 ≡ cond t 0 q
    go true e = refl
    go false e = omega arith ∙ e

-- `position` is the first of all places
pub position_is : (p : ℕ → Bool) (xs : List ℕ) → position p xs ≡ found (length xs) (first_of (λ i. p (at xs i)) 0 (length xs))
position_is p xs = rw first_position
