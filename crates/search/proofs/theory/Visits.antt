-- What a visit's answer says (demand 3, for one position): of a plan, that it leads to the goal, within the ceiling and the bound,
-- and is close to every walk; of a value, that it is past the bound and as good as the value that the visit began with. First the
-- two claims, then each at the goal and at the ceiling, at the end of the work and after a successor's visit, then the induction.
-- Rests on `Stored.antt` and `Turns.antt`. Assumes nothing.
use Prim.Native.Nat.{ℕ, zero, suc, ◌+◌, ◌*◌, ◌≤◌, ◌<◌}
use mathlib.Core.Path.{◌≡◌, sym, subst}
use mathlib.Core.Bool.{true, false}
use mathlib.Core.List.{List, [], ◌∷◌}
use mathlib.Core.Logic.{◌⊎◌, inr}
use native.Mathlib.Omega.{arith}
use native.Mathlib.Decide.{ℕ_discrete}
use lib.Dec.{T}
use lib.ListN.{length, set}
use Rattle.search.specs.declared.Weight.{Weight}
use Rattle.search.specs.Space.{Space}
use Rattle.search.specs.Row.{infinity, best, goes_on, handed_down}
use Rattle.search.specs.Search.{Outcome, first_row, visit, work}
use Rattle.search.proofs.theory.Laws.{Laws, Reaches}
use Rattle.search.proofs.theory.Walks.{Walk, Steps}
use Rattle.search.proofs.theory.Fair.{Good, Fair}
use Rattle.search.proofs.theory.Rows.{best-entry, best-least, best-finite, best_handed, handed_bound, handed_other, stops}
use Rattle.search.proofs.theory.Successors.{best-legal}
use Rattle.search.proofs.theory.Stored.{Sound, first-sound, set-sound, made-finite}
use Rattle.search.proofs.theory.Turns.{Ends, ends-map, goal-ends, work-ends}

-- a visit to s at depth g, reached by the move `last`, with the value F and the bound B
module _ (S : Space) (w : Weight) (ceiling g last : ℕ) (s : S.State) (F B : ℕ) where
  pub record Planned (ms : List ℕ) : Type 0 where
    pub reaches : Reaches S s ms
    pub within : g + length ms ≤ ceiling
    pub cheap : w.q * (g + length ms) ≤ B
    -- that F is good is asked here and below only: so nothing has to be shown of a value that belongs to no successor
    pub close : Good S w ceiling g last s F → (n : ℕ) → Walk S last s n → g + n ≤ ceiling
        → w.q * (g + length ms) ≤ w.p * (g + n)

  pub record Returned (v : ℕ) : Type 0 where
    pub made : w.q * g ≤ v
    pub past : (B < v) ⊎ (infinity ≤ v)
    pub good : Good S w ceiling g last s F → Good S w ceiling g last s v

  abbrev pub Visited : Outcome → Type 0
  Visited = Ends (λ ms left. Planned ms) (λ v left. Returned v)

module _ (S : Space) (I : S.State → Type 0) (laws : Laws S I) (w : Weight) (ceiling : ℕ) (f : ℕ → S.State → ℕ)
    (fair : Fair S I w ceiling f) where
  module _ (g last : ℕ) (s : S.State) (F B : ℕ) where
    at-goal : g ≤ ceiling → w.q * g ≤ F → w.q * g ≤ B → S.at_goal s ≡ true → Planned S w ceiling g last s F B []
    at-goal h made bounded e =
        record {
          reaches = record { plays = tt; arrives = subst T (sym e) tt };
          within = omega arith;
          cheap = omega arith;
          close = λ good n walk k. let l = good n walk k in omega arith;
        }

    -- no walk from here is within the ceiling, so that infinity is good
    at-ceiling : g ≡ ceiling → S.at_goal s ≡ false → Returned S w ceiling g last s F B infinity
    at-ceiling h e =
        record {
          made = omega (arith, made-finite S I w ceiling f fair g (omega arith));
          past = inr (omega arith);
          good = λ good n walk k. none n walk k;
        }
      where
        none : (n : ℕ) → Walk S last s n → g + n ≤ ceiling → infinity ≤ w.p * (g + n)
        none zero walk k = absurd (subst T e walk)
        none (suc n) walk k = absurd (omega arith)

    module _ (r : List ℕ) (sound : Sound S w ceiling g last s F r) where
      best-made : w.q * suc g ≤ (best r).value
      best-made = omega (arith, sound.made (best r).step, best-entry r)

      work-stops : S.at_goal s ≡ false → goes_on B r ≡ false → Returned S w ceiling g last s F B (best r).value
      work-stops e stop =
          record {
            made = omega (arith, best-made);
            past = stops r B stop;
            good = λ good n walk k. least good n walk k;
          }
        where
          least : Good S w ceiling g last s F → Good S w ceiling g last s (best r).value
          least good zero walk k = absurd (subst T e walk)
          least good (suc n) (m, step, walk) k =
              omega (arith, best-least r m (laws.is_move s m step.legal), sound.good good m step n walk (omega arith))

      module _ (on : goes_on B r ≡ true) where
        -- a good F makes the chosen successor's value good
        chosen_good : Good S w ceiling g last s F → Steps S last s (best r).step
            → Good S w ceiling (suc g) (best r).step (S.makes s (best r).step) (best r).value
        chosen_good good step =
            subst (λ (x : ℕ). Good S w ceiling (suc g) (best r).step (S.makes s (best r).step) x) (best-entry r)
            (sound.good good (best r).step step)

        -- a rival that begins as the plan does is the successor's to compare; any other has a value at least the bound handed down
        visit-plans : S.at_goal s ≡ false → (ms : List ℕ)
            → Planned S w ceiling (suc g) (best r).step (S.makes s (best r).step) (best r).value (handed_down B r) ms
            → Planned S w ceiling g last s F B ((best r).step ∷ ms)
        visit-plans e ms plan =
            record {
              reaches =
                  record { plays = (best-legal S s B r sound.legal on, plan.reaches.plays); arrives = plan.reaches.arrives };
              within = omega arith;
              cheap = omega (arith, handed_bound r B);
              close = λ good n walk h. rival good n walk h;
            }
          where
            rival_by : Good S w ceiling g last s F → (n m : ℕ) → Steps S last s m → Walk S m (S.makes s m) n → suc g + n ≤ ceiling
                → Dec (m ≡ (best r).step) → w.q * (suc g + length ms) ≤ w.p * (suc g + n)
            rival_by good n m step walk h (yes same) =
                plan.close (chosen_good good (subst (Steps S last s) same step)) n
                (subst (λ (k : ℕ). Walk S k (S.makes s k) n) same walk) h
            rival_by good n m step walk h (no other) =
                omega (arith, plan.cheap, handed_other r B m (laws.is_move s m step.legal) other, sound.good good m step n walk h)

            rival : Good S w ceiling g last s F → (n : ℕ) → Walk S last s n → g + n ≤ ceiling
                → w.q * (g + suc (length ms)) ≤ w.p * (g + n)
            rival good zero walk h = absurd (subst T e walk)
            rival good (suc n) (m, step, walk) h =
                omega (arith, rival_by good n m step walk (omega arith) (ℕ_discrete m (best r).step))

        visit_returns : (v : ℕ)
            → Returned S w ceiling (suc g) (best r).step (S.makes s (best r).step) (best r).value (handed_down B r) v
            → Sound S w ceiling g last s F (set r (best r).step v)
        visit_returns v back =
            set-sound S I laws w ceiling f fair g last s F r (best r).step v sound (best-finite r B on) back.made
            (λ good step. back.good (chosen_good good step))

    -- the work on a row, given the claim for each visit one move deeper
    work-visited : I s → g < ceiling → S.at_goal s ≡ false → (visit_of : ℕ → ℕ → ℕ → ℕ → Outcome)
        → ((m F' B' left : ℕ) → I (S.makes s m) → w.q * suc g ≤ F' → w.q * suc g ≤ B'
        → Visited S w ceiling (suc g) m (S.makes s m) F' B' (visit_of m F' B' left))
        → (turns left : ℕ) → Visited S w ceiling g last s F B (work visit_of turns B (first_row S f ceiling g s last F) left)
    work-visited i h e visit_of each turns left =
        work-ends (λ ms left'. Planned S w ceiling g last s F B ms) (λ v left'. Returned S w ceiling g last s F B v)
        (λ r left'. Sound S w ceiling g last s F r) visit_of B
        (λ r left' sound stop. work-stops r sound e stop)
        (λ r left' sound on.
        ends-map (visit_of (best r).step (best r).value (handed_down B r) left')
        (λ ms left'' plan. visit-plans r sound on e ms plan) (λ v left'' back. visit_returns r sound on v back)
        (each (best r).step (best r).value (handed_down B r) left'
        (laws.kept s (best r).step i (best-legal S s B r sound.legal on))
        (best-made r sound) (omega (arith, best-made r sound, best_handed r B on))))
        turns (first_row S f ceiling g s last F) left (first-sound S I laws w ceiling f fair g last s F i h)

  -- `deeper` is what is left of the ceiling; both F and B cover the moves made
  pub visit-claim : (deeper g last : ℕ) (s : S.State) (F B left : ℕ) → I s → deeper + g ≡ ceiling → w.q * g ≤ F → w.q * g ≤ B
      → Visited S w ceiling g last s F B (visit S f ceiling deeper g s last F B left)
  unfolding visit
  visit-claim zero g last s F B zero i depth made bounded = tt
  visit-claim (suc deeper) g last s F B zero i depth made bounded = tt
  visit-claim zero g last s F B (suc left) i depth made bounded =
      goal-ends (λ ms left'. Planned S w ceiling g last s F B ms) (λ v left'. Returned S w ceiling g last s F B v)
      (S.at_goal s) left _ (at-goal g last s F B (omega arith) made bounded) (at-ceiling g last s F B (omega arith))
  visit-claim (suc deeper) g last s F B (suc left) i depth made bounded =
      goal-ends (λ ms left'. Planned S w ceiling g last s F B ms) (λ v left'. Returned S w ceiling g last s F B v)
      (S.at_goal s) left _ (at-goal g last s F B (omega arith) made bounded)
      (λ e. work-visited g last s F B i (omega arith) e
      (λ m F' B' left'. visit S f ceiling deeper (suc g) (S.makes s m) m F' B' left')
      (λ m F' B' left' i' made' bounded'. visit-claim deeper (suc g) m (S.makes s m) F' B' left' i' (omega arith) made' bounded')
      (suc left) left)
