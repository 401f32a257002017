-- Walks: legal ways to the goal on which no move takes back the one before, as the search makes them, known by their length.
-- First what a walk is and how far it leads, then the reduction: a legal list that takes back has a walk no longer than itself,
-- since a move and the one that takes it back can be left out together. Rests on `Laws.antt`. Assumes nothing.
use Prim.Native.Nat.{ℕ, zero, suc, ◌+◌, ◌-◌, ◌≤◌, ◌<◌}
use mathlib.Core.Path.{◌≡◌, subst}
use mathlib.Core.List.{List, [], ◌∷◌}
use mathlib.Core.Logic.{◌≢◌}
use native.Mathlib.Omega.{arith}
use native.Mathlib.Decide.{ℕ_discrete}
use lib.Dec.{T}
use lib.ListN.{length}
use Rattle.search.specs.Space.{Space}
use Rattle.search.proofs.theory.Laws.{Laws, Reaches}

-- a move that may be made after the move `last`
pub record Steps (S : Space) (last : ℕ) (s : S.State) (m : ℕ) : Type 0 where
  pub legal : T (S.may s m)
  pub onward : last + m ≢ 3

-- a walk of n moves from s, reached by the move `last`; at the start `last` is 4
abbrev pub Walk : (S : Space) → ℕ → S.State → ℕ → Type 0
Walk S last s zero = T (S.at_goal s)
Walk S last s (suc n) = (m : ℕ) × Steps S last s m × Walk S m (S.makes s m) n

-- a walk from the start s of at most `limit` moves
pub record Shortcut (S : Space) (s : S.State) (limit : ℕ) : Type 0 where
  pub moves : ℕ
  pub short : moves ≤ limit
  pub walk : Walk S 4 s moves

module _ (S : Space) (I : S.State → Type 0) (laws : Laws S I) where
  -- the distance is at most the length
  pub walk-distance : (n last : ℕ) (s : S.State) → I s → Walk S last s n → S.dist s ≤ n
  walk-distance zero last s i w = omega (arith, laws.near_goal s i w)
  walk-distance (suc n) last s i (m, step, rest) =
      omega (arith, laws.closer s m i step.legal, walk-distance n m (S.makes s m) (laws.kept s m i step.legal) rest)

  -- nothing takes back the move before the start
  walk-from_start : (n last : ℕ) (s : S.State) → Walk S last s n → Walk S 4 s n
  walk-from_start zero last s w = w
  walk-from_start (suc n) last s w =
      (w.0, record { legal = w.1.legal; onward = λ e. omega arith }, w.2)

  -- one move in front of a walk: where the walk takes it back at once, both are left out
  in_front : (s : S.State) (m limit : ℕ) → I s → T (S.may s m) → Shortcut S (S.makes s m) limit → Shortcut S s (suc limit)
  in_front s m limit i h c = go c.moves c.short c.walk
    where
      joined : (n : ℕ) → n ≤ limit → Walk S m (S.makes s m) n → Shortcut S s (suc limit)
      joined n l w =
          record { moves = suc n; short = omega arith; walk = (m, record { legal = h; onward = λ e. omega arith }, w) }

      left_out : (n k : ℕ) → n < limit → m + k ≡ 3 → Walk S k (S.makes (S.makes s m) k) n → Shortcut S s (suc limit)
      left_out n k l e w =
          let back : k ≡ 3 - m = omega arith in
          let same : S.makes (S.makes s m) k ≡ s = rw back (laws.back_makes s m i h) in
          record { moves = n; short = omega arith; walk = walk-from_start n k s (subst (λ (t : S.State). Walk S k t n) same w) }

      split : (n : ℕ) → n < limit → (w : Walk S 4 (S.makes s m) (suc n)) → Dec (m + w.0 ≡ 3) → Shortcut S s (suc limit)
      split n l w (yes e) = left_out n w.0 l e w.2
      split n l w (no d) = joined (suc n) l (w.0, record { legal = w.1.legal; onward = d }, w.2)

      go : (n : ℕ) → n ≤ limit → Walk S 4 (S.makes s m) n → Shortcut S s (suc limit)
      go zero l w = joined 0 l w
      go (suc n) l w = split n l w (ℕ_discrete (m + w.0) 3)

  -- a legal list to the goal has a walk no longer than itself
  pub shortcut : (ms : List ℕ) (s : S.State) → I s → Reaches S s ms → Shortcut S s (length ms)
  shortcut [] s i r = record { moves = 0; short = omega arith; walk = r.arrives }
  shortcut (m ∷ ms) s i r =
      in_front s m (length ms) i r.plays.0
      (shortcut ms (S.makes s m) (laws.kept s m i r.plays.0) (record { plays = r.plays.1; arrives = r.arrives }))
