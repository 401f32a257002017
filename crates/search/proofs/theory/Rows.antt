-- A row's decisions (`specs/Row.antt`), each by the facts that the proofs of the search and of its code use: the choice and the
-- second least, the loop's test and the bound handed down, a row after a store, a first value and a first row. Assumes nothing.
use Prim.Native.Nat.{ℕ, zero, suc, ◌≤◌, ◌<◌, max}
use mathlib.Core.Path.{◌≡◌, refl, sym, subst, ap}
use mathlib.Core.Bool.{Bool, true, false, cond, ◌&&◌, false≢true}
use mathlib.Core.List.{List}
use mathlib.Core.Logic.{◌≢◌, ◌⊎◌, inl, inr, ⊎_elim}
use native.Mathlib.Omega.{arith}
use native.Mathlib.Decide.{dec_lt, ℕ_discrete}
use lib.Dec.{leb, ltb, eqb}
use lib.ListN.{length, set, get_or-eq_default}
use lib.Seq.{get_or-set_same, get_or-set_other}
use borrow.Author.Tests.{ltb-true, ltb-false, leb-true, leb-false, eqb-false, ne_eqb}
use Rattle.search.specs.declared.Choice.{Choice}
use Rattle.search.specs.Space.{Space}
use Rattle.search.specs.Row.{infinity, entry, better, best_of, best, masked, other, second, may_go_on, goes_on, handed_down, first_stored}
use Rattle.search.specs.Search.{first_entry, first_row}

-- what holds of the four moves holds of every move below 4
pub each-move : (P : ℕ → Type 0) → P 0 → P 1 → P 2 → P 3 → (m : ℕ) → m < 4 → P m
each-move P a b c d zero h = a
each-move P a b c d (suc zero) h = b
each-move P a b c d (suc (suc zero)) h = c
each-move P a b c d (suc (suc (suc zero))) h = d
each-move P a b c d (suc (suc (suc (suc m)))) h = absurd (omega arith)

-- the better of two choices is one of them
better-one : (P : Choice → Type 0) (x y : Choice) → P x → P y → P (better x y)
unfolding better
better-one P x y p q = go (ltb y.value x.value)
  where
    go : (t : Bool) → P (cond t y x)
    go true = q
    go false = p

-- and its value is at most each of theirs
better-least : (x y : Choice) → ((better x y).value ≤ x.value) × ((better x y).value ≤ y.value)
unfolding better
better-least x y = go (ltb y.value x.value) refl
  where
    go : (t : Bool) → ltb y.value x.value ≡ t → ((cond t y x).value ≤ x.value) × ((cond t y x).value ≤ y.value)
    go true e = let h = ltb-true y.value x.value e in omega arith
    go false e = let h = ltb-false y.value x.value e in omega arith

best_of-one : (P : Choice → Type 0) (v : ℕ → ℕ) → ((m : ℕ) → m < 4 → P (record { step = m; value = v m }))
    → P (best_of (v 0) (v 1) (v 2) (v 3))
unfolding best_of
best_of-one P v each =
    better-one P _ _
    (better-one P _ _ (better-one P _ _ (each 0 (omega arith)) (each 1 (omega arith))) (each 2 (omega arith)))
    (each 3 (omega arith))

best_of-least : (v : ℕ → ℕ) (m : ℕ) → m < 4 → (best_of (v 0) (v 1) (v 2) (v 3)).value ≤ v m
unfolding best_of
best_of-least v =
    let x0 : Choice = record { step = 0; value = v 0 } in
    let x1 : Choice = record { step = 1; value = v 1 } in
    let x2 : Choice = record { step = 2; value = v 2 } in
    let x3 : Choice = record { step = 3; value = v 3 } in
    let a = better-least x0 x1 in
    let b = better-least (better x0 x1) x2 in
    let c = better-least (better (better x0 x1) x2) x3 in
    each-move (λ m. (better (better (better x0 x1) x2) x3).value ≤ v m) (omega arith) (omega arith) (omega arith) (omega arith)

module _ (r : List ℕ) where
  -- the choice is one of the four moves, with its stored value
  pub best-move : (best r).step < 4
  unfolding best
  best-move = best_of-one (λ c. c.step < 4) (entry r) (λ m h. h)

  pub best-entry : entry r (best r).step ≡ (best r).value
  unfolding best
  best-entry = best_of-one (λ c. entry r c.step ≡ c.value) (entry r) (λ m h. refl)

  -- no move has less
  pub best-least : (m : ℕ) → m < 4 → (best r).value ≤ entry r m
  unfolding best
  best-least = best_of-least (entry r)

  other-entry : (m : ℕ) → m ≢ (best r).step → other r (best r).step m ≡ entry r m
  unfolding masked
  other-entry m h = ap (λ (t : Bool). cond t infinity (entry r m)) (ne_eqb m (best r).step h)

  -- no other move has less than the second least
  pub second-least : (m : ℕ) → m < 4 → m ≢ (best r).step → second r ≤ entry r m
  unfolding second
  second-least m h k = subst (λ (x : ℕ). second r ≤ x) (other-entry m k) (best_of-least (other r (best r).step) m h)

  -- it is what another move has, or infinity
  pub second-one : (P : ℕ → Type 0) → P infinity → ((m : ℕ) → m < 4 → m ≢ (best r).step → P (entry r m)) → P (second r)
  unfolding second masked
  second-one P none others = best_of-one (λ c. P c.value) (other r (best r).step) (λ m h. go m h (eqb m (best r).step) refl)
    where
      go : (m : ℕ) → m < 4 → (t : Bool) → eqb m (best r).step ≡ t → P (cond t infinity (entry r m))
      go m h true e = none
      go m h false e = others m h (eqb-false m (best r).step e)

  -- so it is itself at least the least
  pub best-second : (best r).value ≤ infinity → (best r).value ≤ second r
  best-second small = second-one (λ x. (best r).value ≤ x) small (λ m h d. best-least m h)

  module _ (bound : ℕ) where
    -- the loop goes on: the least F is within the bound and not infinity
    pub goes_on_lem : goes_on bound r ≡ true → ((best r).value ≤ bound) × ((best r).value < infinity)
    unfolding goes_on may_go_on
    goes_on_lem e = go (leb (best r).value bound) refl e
      where
        go : (t : Bool) → leb (best r).value bound ≡ t → t && ltb (best r).value infinity ≡ true
            → ((best r).value ≤ bound) × ((best r).value < infinity)
        go true a b = (leb-true (best r).value bound a, ltb-true (best r).value infinity b)
        go false a b = absurd (false≢true b)

    pub best-finite : goes_on bound r ≡ true → entry r (best r).step < infinity
    best-finite e = omega (arith, best-entry, goes_on_lem e)

    -- it stops: the least F is above the bound, or infinity (or more)
    pub stops : goes_on bound r ≡ false → (bound < (best r).value) ⊎ (infinity ≤ (best r).value)
    unfolding goes_on may_go_on
    stops e = go (leb (best r).value bound) refl e
      where
        go : (t : Bool) → leb (best r).value bound ≡ t → t && ltb (best r).value infinity ≡ false
            → (bound < (best r).value) ⊎ (infinity ≤ (best r).value)
        go true a b = inr (ltb-false (best r).value infinity b)
        go false a b = inl (leb-false (best r).value bound a)

    pub stops_infinite : (best r).value ≤ infinity → goes_on bound r ≡ false → (bound < (best r).value) ⊎ ((best r).value ≡ infinity)
    stops_infinite small e = ⊎_elim inl (λ h. inr (omega arith)) (stops e)

    pub handed_bound : handed_down bound r ≤ bound
    unfolding handed_down
    handed_bound = omega arith

    -- the bound handed down is at most what any other move has
    pub handed_other : (m : ℕ) → m < 4 → m ≢ (best r).step → handed_down bound r ≤ entry r m
    unfolding handed_down
    handed_other m h k = let l = second-least m h k in omega arith

    -- and the chosen successor is within it
    pub best_handed : goes_on bound r ≡ true → (best r).value ≤ handed_down bound r
    unfolding handed_down
    best_handed e =
        let on = goes_on_lem e in
        let l = best-second (omega arith) in
        omega arith

-- a row after a store
module _ (r : List ℕ) (m v : ℕ) where
  pub set_other : (k : ℕ) → k ≢ m → entry (set r m v) k ≡ entry r k
  set_other k h = get_or-set_other r m k v infinity h

  pub set_same : m < length r → entry (set r m v) m ≡ v
  set_same h = get_or-set_same r m v infinity h

  -- a move with a value below infinity has a place in the row
  pub entry_place : entry r m < infinity → m < length r
  entry_place h = go (dec_lt m (length r))
    where
      go : Dec (m < length r) → m < length r
      go (yes l) = l
      go (no l) = absurd (omega (arith, get_or-eq_default r infinity {n = m} (omega arith)))

  -- what holds of the value stored, and of each entry before, holds of each entry after
  pub set-each : (P : ℕ → ℕ → Type 0) → entry r m < infinity → P m v → ((k : ℕ) → P k (entry r k)) → (k : ℕ) → P k (entry (set r m v) k)
  set-each P h new old k = go (ℕ_discrete k m)
    where
      go : Dec (k ≡ m) → P k (entry (set r m v) k)
      go (yes e) = subst (λ (j : ℕ). P j (entry (set r m v) j)) (sym e) (subst (P m) (sym (set_same (entry_place h))) new)
      go (no d) = subst (P k) (sym (set_other k d)) (old k)

-- a successor's first value is its own, or the larger of that and the one inherited
pub first-stored : (P : ℕ → Type 0) (f stored own : ℕ) → P own → P (max stored own) → P (first_stored f stored own)
unfolding first_stored
first-stored P f stored own alone inherited = go (ltb f stored)
  where
    go : (t : Bool) → P (cond t (max stored own) own)
    go true = inherited
    go false = alone

-- the row that a visit begins with
module _ (S : Space) (f : ℕ → S.State → ℕ) (ceiling g : ℕ) (s : S.State) (last stored : ℕ) where
  pub first-length : length (first_row S f ceiling g s last stored) ≡ 4
  unfolding first_row
  first-length = refl

  pub first_entry_lem : (m : ℕ) → m < 4 → entry (first_row S f ceiling g s last stored) m ≡ first_entry S f ceiling g s last stored m
  unfolding first_row
  first_entry_lem =
      each-move (λ m. entry (first_row S f ceiling g s last stored) m ≡ first_entry S f ceiling g s last stored m) refl refl refl refl

  -- past the four moves it reads as infinity
  pub first_beyond : (m : ℕ) → 4 ≤ m → entry (first_row S f ceiling g s last stored) m ≡ infinity
  first_beyond m h = get_or-eq_default (first_row S f ceiling g s last stored) infinity {n = m} (omega (arith, first-length))
