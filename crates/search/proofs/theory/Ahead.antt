-- What the work knows before a visit returns: its value will be above the bound that is handed down, or infinity. So the second least F
-- decides the next turn: where it stops the work, that visit is the last, and otherwise it is the row's least F. First the loop's
-- test of any value, then the visits over any space, then a row. Rests on Rows and Turns; no law of a space is used. Assumes nothing.
use Prim.Native.Nat.{ℕ, zero, suc, ◌≤◌, ◌<◌, min}
use mathlib.Core.Path.{◌≡◌, refl, ap}
use mathlib.Core.Bool.{Bool, true, false, ◌&&◌, false≢true}
use mathlib.Core.List.{List}
use mathlib.Core.Logic.{◌⊎◌, ◌≢◌, inl, inr}
use native.Mathlib.Omega.{arith}
use native.Mathlib.Decide.{dec_le, ℕ_discrete}
use lib.Dec.{leb, ltb}
use lib.ListN.{set}
use borrow.Author.Tests.{ltb-true, ltb-false, leb-true, leb-false, lt-leb, le-ltb}
use Rattle.search.specs.Space.{Space}
use Rattle.search.specs.Row.{infinity, entry, best, second, may_go_on, goes_on, handed_down}
use Rattle.search.specs.Search.{Outcome, found, value, spent, first_row, visit, work}
use Rattle.search.proofs.theory.Rows.{best-move, best-entry, best-least, second-least, second-one, stops, set_same, set_other}
use Rattle.search.proofs.theory.Rows.{entry_place}
use Rattle.search.proofs.theory.Turns.{Ends, goal-ends, work-ends}

-- ---- the loop's test of a value

-- above the bound, or infinity (or more)
abbrev pub Past : ℕ → ℕ → Type 0
Past bound x = (bound < x) ⊎ (infinity ≤ x)

module _ (bound x : ℕ) where
  within : may_go_on bound x ≡ true → (x ≤ bound) × (x < infinity)
  unfolding may_go_on
  within = go (leb x bound) refl
    where
      go : (t : Bool) → leb x bound ≡ t → t && ltb x infinity ≡ true → (x ≤ bound) × (x < infinity)
      go true e f = (leb-true x bound e, ltb-true x infinity f)
      go false e f = absurd (false≢true f)

  stopped : may_go_on bound x ≡ false → Past bound x
  unfolding may_go_on
  stopped = go (leb x bound) refl
    where
      go : (t : Bool) → leb x bound ≡ t → t && ltb x infinity ≡ false → Past bound x
      go true e f = inr (ltb-false x infinity f)
      go false e f = inl (leb-false x bound e)

  stopping : Past bound x → may_go_on bound x ≡ false
  unfolding may_go_on
  stopping (inl h) = rw (lt-leb x bound h)
  stopping (inr h) = rw (le-ltb x infinity h) (neither (leb x bound))
    where
      neither : (t : Bool) → t && false ≡ false
      neither true = refl
      neither false = refl

-- ---- the visits: what is returned is past the bound; of a plan nothing is claimed

abbrev pub ReturnsPast : ℕ → Outcome → Type 0
ReturnsPast bound = Ends (λ ms left. Unit {0}) (λ v left. Past bound v)

anything : (o : Outcome) → Ends (λ ms left. Unit {0}) (λ v left. Unit {0}) o
anything (found ms left) = tt
anything (value v left) = tt
anything spent = tt

work-past : (visit_of : ℕ → ℕ → ℕ → ℕ → Outcome) (turns bound : ℕ) (r : List ℕ) (left : ℕ)
    → ReturnsPast bound (work visit_of turns bound r left)
work-past visit_of turns bound r left =
    work-ends (λ ms rest. Unit {0}) (λ v rest. Past bound v) (λ row rest. Unit {0}) visit_of bound
    (λ row rest i e. stops row bound e)
    (λ row rest i e. anything (visit_of (best row).step (best row).value (handed_down bound row) rest)) turns r left tt

pub visit-past : (S : Space) (f : ℕ → S.State → ℕ) (ceiling deeper g : ℕ) (s : S.State) (last stored bound left : ℕ)
    → ReturnsPast bound (visit S f ceiling deeper g s last stored bound left)
unfolding visit
visit-past S f ceiling zero g s last stored bound zero = tt
visit-past S f ceiling (suc deeper) g s last stored bound zero = tt
visit-past S f ceiling zero g s last stored bound (suc left) =
    goal-ends (λ ms rest. Unit {0}) (λ v rest. Past bound v) (S.at_goal s) left _ (λ e. tt) (λ e. inr (omega arith))
visit-past S f ceiling (suc deeper) g s last stored bound (suc left) =
    goal-ends (λ ms rest. Unit {0}) (λ v rest. Past bound v) (S.at_goal s) left _ (λ e. tt)
    (λ e. work-past (λ m stored' bound' rest. visit S f ceiling deeper (suc g) (S.makes s m) m stored' bound' rest) (suc left) bound
    (first_row S f ceiling g s last stored) left)

-- ---- a row r whose best move returned v

module _ (r : List ℕ) (finite : entry r (best r).step < infinity) (v : ℕ) (small : v ≤ infinity) where
  abbrev returned : List ℕ
  returned = set r (best r).step v

  own : entry returned (best r).step ≡ v
  own = set_same r (best r).step v (entry_place r (best r).step v finite)

  others : (m : ℕ) → m ≢ (best r).step → entry returned m ≡ entry r m
  others m d = set_other r (best r).step v m d

  -- its least F is then the lesser of v and the second least
  pub least-returned : (best returned).value ≡ min v (second r)
  least-returned = omega (arith, not-above-v, not-above-second, not-below)
    where
      not-above-v : (best returned).value ≤ v
      not-above-v = omega (arith, own, best-least returned (best r).step (best-move r))

      not-above-second : (best returned).value ≤ second r
      not-above-second =
          second-one r (λ x. (best returned).value ≤ x) (omega (arith, not-above-v))
          (λ m h d. omega (arith, others m d, best-least returned m h))

      at-move : (m : ℕ) → m < 4 → Dec (m ≡ (best r).step) → min v (second r) ≤ entry returned m
      at-move m h (yes e) = omega (arith, ap (entry returned) e, own)
      at-move m h (no d) = omega (arith, others m d, second-least r m h d)

      not-below : min v (second r) ≤ (best returned).value
      not-below =
          let same = ℕ_discrete (best returned).step (best r).step in
          omega (arith, best-entry returned, at-move (best returned).step (best-move returned) same)

  module _ (bound : ℕ) (past : Past (handed_down bound r) v) where
    -- the second least stops the work: so does the least F, whichever it is
    pub last-visit : may_go_on bound (second r) ≡ false → goes_on bound returned ≡ false
    unfolding goes_on handed_down
    last-visit e = rw least-returned (stopping bound (min v (second r)) (lesser (stopped bound (second r) e) past))
      where
        lesser : Past bound (second r) → Past (min bound (second r)) v → Past bound (min v (second r))
        lesser (inl a) (inl c) = inl (omega arith)
        lesser (inl a) (inr c) = go (dec_le v (second r))
          where
            go : Dec (v ≤ second r) → Past bound (min v (second r))
            go (yes l) = inr (omega arith)
            go (no l) = inl (omega arith)
        lesser (inr a) (inl c) = go (dec_le v (second r))
          where
            go : Dec (v ≤ second r) → Past bound (min v (second r))
            go (yes l) = inl (omega arith)
            go (no l) = inr (omega arith)
        lesser (inr a) (inr c) = inr (omega arith)

    -- the second least does not stop the work: it is the least F, and the work goes on
    pub next-least : may_go_on bound (second r) ≡ true → (best returned).value ≡ second r
    unfolding handed_down
    next-least e = go past
      where
        go : Past (min bound (second r)) v → (best returned).value ≡ second r
        go (inl l) = omega (arith, least-returned, within bound (second r) e)
        go (inr l) = omega (arith, least-returned, within bound (second r) e)

    pub next-goes-on : may_go_on bound (second r) ≡ true → goes_on bound returned ≡ true
    unfolding goes_on
    next-goes-on e = rw (next-least e) e
