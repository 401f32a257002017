-- What the search promises over any space with its laws, by any fair static value: demand 3, the count of visits, how large its
-- numbers get, and a ceiling that can't be met. A rival is any legal list to the goal, of any length, that may take moves back. The
-- promises come in this order: of a plan, of a value, of the visits left, of a search that is spent, of the numbers, of a start that is
-- too far. Rests on `Visits.antt`, `Budget.antt`, `Again.antt`, `Limits.antt` and `Above.antt`. Assumes nothing.
use Prim.Native.Nat.{ℕ, zero, suc, ◌+◌, ◌*◌, ◌-◌, ◌≤◌, ◌<◌}
use mathlib.Core.Path.{◌≡◌, subst, ap, ◌∙◌}
use mathlib.Core.List.{List}
use mathlib.Core.Logic.{◌⊎◌, inl, inr}
use native.Mathlib.Nat.{mul-le-mul, mul-le-mul_left}
use native.Mathlib.Omega.{arith}
use native.Mathlib.Decide.{dec_le}
use lib.ListN.{length}
use Rattle.search.specs.declared.Weight.{Weight}
use Rattle.search.specs.Space.{Space}
use Rattle.search.specs.Row.{infinity, entry}
use Rattle.search.specs.Search.{Outcome, found, value, spent, first_row, visit, search}
use Rattle.search.proofs.theory.Laws.{Laws, Reaches}
use Rattle.search.proofs.theory.Walks.{Shortcut, shortcut}
use Rattle.search.proofs.theory.Fair.{Fair}
use Rattle.search.proofs.theory.Visits.{Planned, Returned, Visited, visit-claim}
use Rattle.search.proofs.theory.Budget.{Spends, visit_spends}
use Rattle.search.proofs.theory.Again.{Again, visit-again}
use Rattle.search.proofs.theory.Limits.{Within, Capped, ReturnsWithin, first-limited, visit-within}
use Rattle.search.proofs.theory.Above.{above-visit}

module _ (S : Space) (I : S.State → Type 0) (laws : Laws S I) (w : Weight) (ceiling : ℕ) (f : ℕ → S.State → ℕ)
    (fair : Fair S I w ceiling f) (s : S.State) (i : I s) (budget : ℕ) where
  -- the visit to the start, as the search makes it
  claim : Visited S w ceiling 0 4 s (f 0 s) infinity (search S f ceiling s budget)
  unfolding search
  claim = visit-claim S I laws w ceiling f fair ceiling 0 4 s (f 0 s) infinity budget i (omega arith) (omega arith) (omega arith)

  planned : {ms : List ℕ} {left : ℕ} → search S f ceiling s budget ≡ found ms left → Planned S w ceiling 0 4 s (f 0 s) infinity ms
  planned e = subst (Visited S w ceiling 0 4 s (f 0 s) infinity) e claim

  returned : {v left : ℕ} → search S f ceiling s budget ≡ value v left → Returned S w ceiling 0 4 s (f 0 s) infinity v
  returned e = subst (Visited S w ceiling 0 4 s (f 0 s) infinity) e claim

  -- a plan leads to the goal, within the ceiling
  pub plan-reaches : {ms : List ℕ} {left : ℕ} → search S f ceiling s budget ≡ found ms left → Reaches S s ms
  plan-reaches e = (planned e).reaches

  pub plan-within : {ms : List ℕ} {left : ℕ} → search S f ceiling s budget ≡ found ms left → length ms ≤ ceiling
  plan-within e = omega (arith, (planned e).within)

  -- q times its length is at most p times that of any rival, also of one beyond the ceiling
  pub plan-close : {ms : List ℕ} {left : ℕ} → search S f ceiling s budget ≡ found ms left
      → (ds : List ℕ) → Reaches S s ds → w.q * length ms ≤ w.p * length ds
  plan-close {ms} e ds r = go (dec_le rival.moves ceiling)
    where
      rival : Shortcut S s (length ds)
      rival = shortcut S I laws ds s i r

      go : Dec (rival.moves ≤ ceiling) → w.q * length ms ≤ w.p * length ds
      go (yes h) =
          let near = (planned e).close (fair.good 0 4 s i) rival.moves rival.walk (omega arith) in
          omega (arith, mul-le-mul_left w.p rival.short)
      go (no h) =
          let longer : length ms ≤ length ds = omega (arith, plan-within e, rival.short) in
          mul-le-mul fair.weight longer

  -- a value returned is at least infinity
  value_unbounded : {v left : ℕ} → search S f ceiling s budget ≡ value v left → infinity ≤ v
  value_unbounded {v} e = go (returned e).past
    where
      go : (infinity < v) ⊎ (infinity ≤ v) → infinity ≤ v
      go (inl h) = omega arith
      go (inr h) = h

  -- where a value is returned, every rival is beyond the ceiling
  pub value_beyond : {v left : ℕ} → search S f ceiling s budget ≡ value v left
      → (ds : List ℕ) → Reaches S s ds → ceiling < length ds
  value_beyond {v} e ds r = go (dec_le rival.moves ceiling)
    where
      rival : Shortcut S s (length ds)
      rival = shortcut S I laws ds s i r

      go : Dec (rival.moves ≤ ceiling) → ceiling < length ds
      go (yes h) =
          let low = (returned e).good (fair.good 0 4 s i) rival.moves rival.walk (omega arith) in
          absurd (omega (arith, value_unbounded e, mul-le-mul_left w.p h, fair.finite))
      go (no h) = omega (arith, rival.short)

  -- and the value is infinity, where the static value is capped
  pub value_infinite : {M : ℕ} → Capped S I ceiling M f → {v left : ℕ} → search S f ceiling s budget ≡ value v left → v ≡ infinity
  unfolding search
  value_infinite {M} capped {v} e =
      go (subst (ReturnsWithin M) e
      (visit-within S I laws ceiling M f capped ceiling 0 4 s (f 0 s) infinity budget i (omega arith) (capped.within 0 s i (omega arith))))
    where
      go : Within M v → v ≡ infinity
      go (inl h) = absurd (omega (arith, value_unbounded e, capped.finite))
      go (inr h) = h

-- an answer leaves fewer visits than the visit, or the search, was given: it counts itself. Over any space, by any static value
module _ (S : Space) (f : ℕ → S.State → ℕ) (ceiling : ℕ) where
  module _ (deeper g : ℕ) (s : S.State) (last stored bound left : ℕ) where
    pub visit-plan_counts : {ms : List ℕ} {left' : ℕ} → visit S f ceiling deeper g s last stored bound left ≡ found ms left' → left' < left
    visit-plan_counts e = subst (Spends left) e (visit_spends S f ceiling deeper g s last stored bound left)

    pub visit-value_counts : {v left' : ℕ} → visit S f ceiling deeper g s last stored bound left ≡ value v left' → left' < left
    visit-value_counts e = subst (Spends left) e (visit_spends S f ceiling deeper g s last stored bound left)

  module _ (s : S.State) (budget : ℕ) where
    pub plan_counts : {ms : List ℕ} {left : ℕ} → search S f ceiling s budget ≡ found ms left → left < budget
    unfolding search
    plan_counts e = visit-plan_counts ceiling 0 s 4 (f 0 s) infinity budget e

    pub value_counts : {v left : ℕ} → search S f ceiling s budget ≡ value v left → left < budget
    unfolding search
    value_counts e = visit-value_counts ceiling 0 s 4 (f 0 s) infinity budget e

-- what spent means: at every budget at which the search ends it makes more visits than a budget at which it is spent
module _ (S : Space) (f : ℕ → S.State → ℕ) (ceiling : ℕ) (s : S.State) (budget budget' : ℕ)
    (out : search S f ceiling s budget ≡ spent) where
  again : Again budget' (search S f ceiling s budget') budget (search S f ceiling s budget)
  unfolding search
  again = visit-again S f ceiling ceiling 0 s 4 (f 0 s) infinity budget' budget

  pub spent-plan : {ms : List ℕ} {left : ℕ} → search S f ceiling s budget' ≡ found ms left → budget < budget' - left
  spent-plan {ms} {left} e = go (dec_le (budget' - left) budget)
    where
      ends : Again budget' (found ms left) budget (search S f ceiling s budget)
      ends = subst (λ (o : Outcome). Again budget' o budget (search S f ceiling s budget)) e again

      go : Dec (budget' - left ≤ budget) → budget < budget' - left
      go (yes h) =
          let it = ends (budget - (budget' - left)) (omega (arith, plan_counts S f ceiling s budget' e)) in
          let z : ◌≡◌ {A = ℕ} 0 1 = cc in
          absurd (omega arith)
      go (no h) = omega arith

  pub spent-value : {v left : ℕ} → search S f ceiling s budget' ≡ value v left → budget < budget' - left
  spent-value {v} {left} e = go (dec_le (budget' - left) budget)
    where
      ends : Again budget' (value v left) budget (search S f ceiling s budget)
      ends = subst (λ (o : Outcome). Again budget' o budget (search S f ceiling s budget)) e again

      go : Dec (budget' - left ≤ budget) → budget < budget' - left
      go (yes h) =
          let it = ends (budget - (budget' - left)) (omega (arith, value_counts S f ceiling s budget' e)) in
          let z : ◌≡◌ {A = ℕ} 0 1 = cc in
          absurd (omega arith)
      go (no h) = omega arith

-- no number but infinity is above M, neither in the row that a visit begins with nor among the values that visits return
module _ (S : Space) (I : S.State → Type 0) (laws : Laws S I) (ceiling M : ℕ) (f : ℕ → S.State → ℕ)
    (capped : Capped S I ceiling M f) (g last : ℕ) (s : S.State) (i : I s) (stored : ℕ) (small : Within M stored) where
  pub first-within : g < ceiling → (m : ℕ) → Within M (entry (first_row S f ceiling g s last stored) m)
  first-within h = (first-limited S I laws ceiling M f capped g last s stored i h small).within

  pub value-within : (deeper bound left : ℕ) → deeper + g ≡ ceiling
      → {v left' : ℕ} → visit S f ceiling deeper g s last stored bound left ≡ value v left' → Within M v
  value-within deeper bound left depth e =
      subst (ReturnsWithin M) e (visit-within S I laws ceiling M f capped deeper g last s stored bound left i depth small)

-- where the start's distance is above the ceiling, the search ends with infinity and has made one visit, at every budget
pub above-at-once : (S : Space) (I : S.State → Type 0) → Laws S I → (f : ℕ → S.State → ℕ) (ceiling : ℕ) (s : S.State) → I s
    → ceiling < S.dist s → (budget : ℕ) → 1 ≤ budget → search S f ceiling s budget ≡ value infinity (budget - 1)
unfolding search
above-at-once S I laws f ceiling s i above zero none = absurd (omega arith)
above-at-once S I laws f ceiling s i above (suc left) some =
    above-visit S I laws f ceiling 0 s i (omega arith) 4 (f 0 s) (omega arith) ceiling infinity left ∙ ap (value infinity) (omega arith)
