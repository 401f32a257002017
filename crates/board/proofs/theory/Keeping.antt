-- A distance that is kept beside a position: it is at most 90, it is 0 exactly at the goal, and a move's answer leads it on to the
-- distance of the position after the move, as does the change of a move that is not made. Search and player rest on these.
-- Assumes nothing.
use Prim.Native.Nat.{ℕ, ◌+◌, ◌≤◌}
use mathlib.Core.Path.{◌≡◌, refl, sym, ◌∙◌, ap, ap₂, subst}
use mathlib.Core.Bool.{Bool, true, false, false≢true}
use mathlib.Core.List.{List}
use native.Mathlib.Omega.{arith}
use lib.Dec.{T, eqb}
use lib.IntN.{ℤ, pos, ◌+ℤ◌, nat_abs}
use lib.Signed.{lt_z}
use borrow.Author.Tests.{eqb-true, eqb-false}
use Rattle.board.specs.declared.Shape.{Shape}
use Rattle.board.specs.declared.Position.{Position}
use Rattle.board.specs.declared.Moved.{Moved}
use Rattle.board.specs.Shape.{GoodShape}
use Rattle.board.specs.Board.{IsBoard, is_goal}
use Rattle.board.specs.Moves.{legal, after}
use Rattle.board.specs.Distance.{distance}
use Rattle.board.specs.Held.{held}
use Rattle.board.specs.Change.{OneStep, nearer, farther, change, MovedBy, Kept, LeadsOn}
use Rattle.board.proofs.theory.Boards.{is_goal-sound, is_goal-complete}
use Rattle.board.proofs.theory.Changes.{read_back, read_back_lem, less_means, more_means, move-change, move-one_step}
use Rattle.board.proofs.theory.Distances.{goal-distance, distance_0_goal, distance-at-most_90}

-- the goal is known by distance 0
pub goal_by_distance : (s : Shape) (b : List ℕ) → GoodShape s → IsBoard s b → is_goal s b ≡ eqb (distance s b) 0
goal_by_distance s b shape board = go (eqb (distance s b) 0) refl
  where
    away : (t : Bool) → is_goal s b ≡ t → eqb (distance s b) 0 ≡ false → t ≡ false
    away true e far = absurd (eqb-false (distance s b) 0 far (ap (distance s) (is_goal-sound s b board.long e) ∙ goal-distance s))
    away false e far = refl

    go : (t : Bool) → eqb (distance s b) 0 ≡ t → is_goal s b ≡ t
    go true e = is_goal-complete s b (distance_0_goal s b shape board (eqb-true (distance s b) 0 e))
    go false e = away (is_goal s b) refl e

module _ (s : Shape) (p : Position) (h : ℕ) (kept : Kept s p h) where
  pub kept-most : h ≤ 90
  kept-most = omega (arith, kept.full, distance-at-most_90 s (held s p) kept.holds.shape kept.holds.board)

  pub kept-goal : is_goal s (held s p) ≡ eqb h 0
  kept-goal =
      goal_by_distance s (held s p) kept.holds.shape kept.holds.board ∙ ap (λ (k : ℕ). eqb k 0) (sym kept.full)

  module _ (m : ℕ) (r : Moved) (moved : MovedBy s (held s p) m r) where
    sum_kept : pos (distance s (after s (held s p) m)) ≡ pos h +ℤ read_back r.change
    sum_kept =
        moved.sum ∙ ap₂ (λ (k : ℕ) (z : ℤ). pos k +ℤ z) (sym kept.full) (sym (read_back_lem moved.one_step))

    pub leads_on : LeadsOn h (read_back r.change)
    leads_on =
        record {
          one_step = subst OneStep (sym (read_back_lem moved.one_step)) moved.one_step;
          to = distance s (after s (held s p) m);
          most = kept-most;
          sum = sum_kept;
        }

    -- what the change makes of it is the distance after the move
    pub changed_distance : (k : ℕ) → pos k ≡ pos h +ℤ read_back r.change → k ≡ distance s (after s (held s p) m)
    changed_distance k e = ap nat_abs (e ∙ sym sum_kept)

    pub kept_on : (k : ℕ) → pos k ≡ pos h +ℤ read_back r.change → Kept s r.position k
    kept_on k e =
        record { holds = moved.position.holds; full = changed_distance k e ∙ ap (distance s) (sym moved.position.same) }

  -- ---- a move that is not made: where its change leads

  module _ (m : ℕ) (allowed : T (legal s (held s p) m)) (z : ℤ) (is : z ≡ change s (held s p) m) where
    step_to : pos (distance s (after s (held s p) m)) ≡ pos h +ℤ z
    step_to =
        move-change s (held s p) m kept.holds.shape kept.holds.board allowed
        ∙ ap₂ (λ (k : ℕ) (y : ℤ). pos k +ℤ y) (sym kept.full) (sym is)

    one-step : OneStep z
    one-step = subst OneStep (sym is) (move-one_step s (held s p) m kept.holds.shape kept.holds.board allowed)

    pub leads_nearer : lt_z (read_back z) (pos 0) ≡ true → h ≡ 1 + distance s (after s (held s p) m)
    leads_nearer below = go one-step step_to below
      where
        go : {y : ℤ} → OneStep y → pos (distance s (after s (held s p) m)) ≡ pos h +ℤ y → lt_z (read_back y) (pos 0) ≡ true
            → h ≡ 1 + distance s (after s (held s p) m)
        go nearer e t = less_means (distance s (after s (held s p) m)) h e
        go farther e t = absurd (false≢true t)

    pub leads_farther : lt_z (read_back z) (pos 0) ≡ false → distance s (after s (held s p) m) ≡ 1 + h
    leads_farther above = go one-step step_to above
      where
        go : {y : ℤ} → OneStep y → pos (distance s (after s (held s p) m)) ≡ pos h +ℤ y → lt_z (read_back y) (pos 0) ≡ false
            → distance s (after s (held s p) m) ≡ 1 + h
        go nearer e t = absurd (false≢true (sym t))
        go farther e t = more_means (distance s (after s (held s p) m)) h e
