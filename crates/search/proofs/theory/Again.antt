-- The budget matters to an answer only in being enough: where a visit ends with some visits left, it ends in the same way with any number
-- of visits from which the same count can be taken. First the turns of the work, of which one more than the visits left is always enough;
-- then the claim for the work and for a visit. Holds over any space, with no law. Rests on `Budget.antt`. Assumes nothing.
use Prim.Native.Nat.{ℕ, zero, suc, ◌+◌, ◌-◌, ◌<◌}
use mathlib.Core.Path.{◌≡◌, refl, ap}
use mathlib.Core.Bool.{Bool, true, false}
use mathlib.Core.List.{List, []}
use native.Mathlib.Omega.{arith}
use lib.ListN.{set}
use Rattle.search.specs.Space.{Space}
use Rattle.search.specs.Row.{infinity, best, goes_on, handed_down}
use Rattle.search.specs.Search.{Outcome, found, value, spent, taken_up, turn, work, unless_goal, first_row, visit}
use Rattle.search.proofs.theory.Budget.{Spends, work_spends, visit_spends}

-- of an outcome at `left` visits, that another at `left'` visits is the same, the same number of visits having been made
abbrev pub Again : ℕ → Outcome → ℕ → Outcome → Type 0
Again left (found ms rest) left' o' = (rest' : ℕ) → left + rest' ≡ left' + rest → o' ≡ found ms rest'
Again left (value v rest) left' o' = (rest' : ℕ) → left + rest' ≡ left' + rest → o' ≡ value v rest'
Again left spent left' o' = Unit {0}

module _ (visit_of : ℕ → ℕ → ℕ → ℕ → Outcome) (each : (m stored bound left : ℕ) → Spends left (visit_of m stored bound left))
    (bound : ℕ) where
  -- ---- the turns

  same_taken : (m left : ℕ) (r : List ℕ) (o : Outcome) (go_on goOn' : List ℕ → ℕ → Outcome) → Spends left o
      → ((r' : List ℕ) (rest : ℕ) → rest < left → go_on r' rest ≡ goOn' r' rest) → taken_up m r o go_on ≡ taken_up m r o goOn'
  unfolding taken_up
  same_taken m left r (found ms rest) go_on goOn' less same = refl
  same_taken m left r (value v rest) go_on goOn' less same = same (set r m v) rest less
  same_taken m left r spent go_on goOn' less same = refl

  same_turn : (t : Bool) (left : ℕ) (r : List ℕ) (go_on goOn' : List ℕ → ℕ → Outcome)
      → ((r' : List ℕ) (rest : ℕ) → rest < left → go_on r' rest ≡ goOn' r' rest)
      → turn t visit_of go_on bound r left ≡ turn t visit_of goOn' bound r left
  unfolding turn
  same_turn true left r go_on goOn' same =
      same_taken (best r).step left r (visit_of (best r).step (best r).value (handed_down bound r) left) go_on goOn'
      (each (best r).step (best r).value (handed_down bound r) left) same
  same_turn false left r go_on goOn' same = refl

  -- the bound on the turns never bites: any two that are above the visits left give the same
  pub turns-enough : (turns turns' : ℕ) (r : List ℕ) (left : ℕ) → left < turns → left < turns'
      → work visit_of turns bound r left ≡ work visit_of turns' bound r left
  unfolding work
  turns-enough zero turns' r left h h' = absurd (omega arith)
  turns-enough (suc turns) zero r left h h' = absurd (omega arith)
  turns-enough (suc turns) (suc turns') r left h h' =
      same_turn (goes_on bound r) left r (λ r' rest. work visit_of turns bound r' rest) (λ r' rest. work visit_of turns' bound r' rest)
      (λ r' rest less. turns-enough turns turns' r' rest (omega arith) (omega arith))

  -- ---- the work on a row, given the claim for each visit

  module _ (once_more : (m stored bound left left' : ℕ)
      → Again left (visit_of m stored bound left) left' (visit_of m stored bound left')) where
    -- the work went on with the value that a visit returned
    gone_on : (left left' rest : ℕ) (v : ℕ) (m : ℕ) (r : List ℕ) (o' : Outcome) (goOn' : List ℕ → ℕ → Outcome) → rest < left
        → Again left (value v rest) left' o' → (o : Outcome) → Spends (suc rest) o
        → ((rest' : ℕ) → rest' < left' → Again rest o rest' (goOn' (set r m v) rest'))
        → Again left o left' (taken_up m r o' goOn')
    unfolding taken_up
    gone_on left left' rest v m r o' goOn' less returned (found ms rest₂) fewer further = λ rest₂' e.
        let rest' : ℕ = rest₂' + (rest - rest₂) in
        rw (returned rest' (omega arith)) (further rest' (omega arith) rest₂' (omega arith))
    gone_on left left' rest v m r o' goOn' less returned (value w rest₂) fewer further = λ rest₂' e.
        let rest' : ℕ = rest₂' + (rest - rest₂) in
        rw (returned rest' (omega arith)) (further rest' (omega arith) rest₂' (omega arith))
    gone_on left left' rest v m r o' goOn' less returned spent fewer further = tt

    taken-again : (m left left' : ℕ) (r : List ℕ) (o o' : Outcome) (go_on goOn' : List ℕ → ℕ → Outcome)
        → Spends left o → Again left o left' o'
        → ((r' : List ℕ) (rest : ℕ) → Spends (suc rest) (go_on r' rest))
        → ((r' : List ℕ) (rest rest' : ℕ) → rest < left → rest' < left' → Again rest (go_on r' rest) rest' (goOn' r' rest'))
        → Again left (taken_up m r o go_on) left' (taken_up m r o' goOn')
    unfolding taken_up
    taken-again m left left' r (found ms rest) o' go_on goOn' less again fewer further = λ rest' e. rw (again rest' e)
    taken-again m left left' r (value v rest) o' go_on goOn' less again fewer further =
        gone_on left left' rest v m r o' goOn' less again (go_on (set r m v) rest) (fewer (set r m v) rest)
        (λ rest' less'. further (set r m v) rest rest' less less')
    taken-again m left left' r spent o' go_on goOn' less again fewer further = tt

    turn-again : (t : Bool) (left left' : ℕ) (r : List ℕ) (go_on goOn' : List ℕ → ℕ → Outcome)
        → ((r' : List ℕ) (rest : ℕ) → Spends (suc rest) (go_on r' rest))
        → ((r' : List ℕ) (rest rest' : ℕ) → rest < left → rest' < left' → Again rest (go_on r' rest) rest' (goOn' r' rest'))
        → Again left (turn t visit_of go_on bound r left) left' (turn t visit_of goOn' bound r left')
    unfolding turn
    turn-again true left left' r go_on goOn' fewer further =
        taken-again (best r).step left left' r (visit_of (best r).step (best r).value (handed_down bound r) left)
        (visit_of (best r).step (best r).value (handed_down bound r) left') go_on goOn'
        (each (best r).step (best r).value (handed_down bound r) left)
        (once_more (best r).step (best r).value (handed_down bound r) left left') fewer further
    turn-again false left left' r go_on goOn' fewer further = λ rest' e. ap (value (best r).value) (omega arith)

    pub work-again : (turns turns' : ℕ) (r : List ℕ) (left left' : ℕ) → left < turns → left' < turns'
        → Again left (work visit_of turns bound r left) left' (work visit_of turns' bound r left')
    unfolding work
    work-again zero turns' r left left' h h' = absurd (omega arith)
    work-again (suc turns) zero r left left' h h' = absurd (omega arith)
    work-again (suc turns) (suc turns') r left left' h h' =
        turn-again (goes_on bound r) left left' r (λ r' rest. work visit_of turns bound r' rest)
        (λ r' rest. work visit_of turns' bound r' rest)
        (λ r' rest. work_spends visit_of each turns bound r' rest)
        (λ r' rest rest' less less'. work-again turns turns' r' rest rest' (omega arith) (omega arith))

-- ---- a visit

goal-again : (t : Bool) (left left' : ℕ) (go_on : ℕ → Outcome) → Again left (go_on left) left' (go_on left')
    → Again left (unless_goal t left go_on) left' (unless_goal t left' go_on)
unfolding unless_goal
goal-again true left left' go_on further = λ rest' e. ap (found []) (omega arith)
goal-again false left left' go_on further = further

-- the visit counted: what is claimed of the visits after it is claimed with it
one_more : (left left' : ℕ) (o o' : Outcome) → Again left o left' o' → Again (suc left) o (suc left') o'
one_more left left' (found ms rest) o' again = λ rest' e. again rest' (omega arith)
one_more left left' (value v rest) o' again = λ rest' e. again rest' (omega arith)
one_more left left' spent o' again = tt

-- with no visit left nothing is found or returned
none_left : (left : ℕ) (o o' : Outcome) → Spends left o → Again left o 0 o'
none_left left (found ms rest) o' less = λ rest' e. absurd (omega arith)
none_left left (value v rest) o' less = λ rest' e. absurd (omega arith)
none_left left spent o' less = tt

module _ (S : Space) (f : ℕ → S.State → ℕ) (ceiling : ℕ) where
  pub visit-again : (deeper g : ℕ) (s : S.State) (last stored bound left left' : ℕ)
      → Again left (visit S f ceiling deeper g s last stored bound left) left' (visit S f ceiling deeper g s last stored bound left')
  unfolding visit
  visit-again zero g s last stored bound zero left' = tt
  visit-again (suc deeper) g s last stored bound zero left' = tt
  visit-again zero g s last stored bound (suc left) zero =
      none_left (suc left) (visit S f ceiling zero g s last stored bound (suc left)) spent
      (visit_spends S f ceiling zero g s last stored bound (suc left))
  visit-again (suc deeper) g s last stored bound (suc left) zero =
      none_left (suc left) (visit S f ceiling (suc deeper) g s last stored bound (suc left)) spent
      (visit_spends S f ceiling (suc deeper) g s last stored bound (suc left))
  visit-again zero g s last stored bound (suc left) (suc left') =
      one_more left left' (visit S f ceiling zero g s last stored bound (suc left))
      (visit S f ceiling zero g s last stored bound (suc left'))
      (goal-again (S.at_goal s) left left' (λ rest. value infinity rest) (λ rest' e. ap (value infinity) (omega arith)))
  visit-again (suc deeper) g s last stored bound (suc left) (suc left') =
      one_more left left' (visit S f ceiling (suc deeper) g s last stored bound (suc left))
      (visit S f ceiling (suc deeper) g s last stored bound (suc left'))
      (goal-again (S.at_goal s) left left'
      (λ rest. work (λ m stored' bound' rest'. visit S f ceiling deeper (suc g) (S.makes s m) m stored' bound' rest')
      (suc rest) bound (first_row S f ceiling g s last stored) rest)
      (work-again (λ m stored' bound' rest. visit S f ceiling deeper (suc g) (S.makes s m) m stored' bound' rest)
      (λ m stored' bound' rest. visit_spends S f ceiling deeper (suc g) (S.makes s m) m stored' bound' rest) bound
      (λ m stored' bound' rest rest'. visit-again deeper (suc g) (S.makes s m) m stored' bound' rest rest')
      (suc left) (suc left') (first_row S f ceiling g s last stored) left left' (omega arith) (omega arith)))
