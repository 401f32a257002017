-- What the theory of the search asks of a space: the six laws, over an invariant of its states. And what it promises about:
-- a legal list of moves that ends at the goal, of any length, in which a move may be taken back. Assumes nothing.
use Prim.Native.Nat.{ℕ, ◌+◌, ◌-◌, ◌≤◌, ◌<◌}
use mathlib.Core.Path.{◌≡◌}
use mathlib.Core.List.{List}
use lib.Dec.{T}
use Rattle.board.specs.Lists.{Plays, ends}
use Rattle.search.specs.Space.{Space}

pub record Laws (S : Space) (I : S.State → Type 0) : Type 0 where
  -- a legal move keeps the invariant, and is one of four
  pub kept : (s : S.State) (m : ℕ) → I s → T (S.may s m) → I (S.makes s m)
  pub is_move : (s : S.State) (m : ℕ) → T (S.may s m) → m < 4
  -- it can be taken back, which leads to the same state
  pub back_may : (s : S.State) (m : ℕ) → I s → T (S.may s m) → T (S.may (S.makes s m) (3 - m))
  pub back_makes : (s : S.State) (m : ℕ) → I s → T (S.may s m) → S.makes (S.makes s m) (3 - m) ≡ s
  -- it comes nearer by one at most, and the goal is at distance 0
  pub closer : (s : S.State) (m : ℕ) → I s → T (S.may s m) → S.dist s ≤ 1 + S.dist (S.makes s m)
  pub near_goal : (s : S.State) → I s → T (S.at_goal s) → S.dist s ≡ 0

pub record Reaches (S : Space) (s : S.State) (ms : List ℕ) : Type 0 where
  pub plays : Plays S.may S.makes s ms
  pub arrives : T (S.at_goal (ends S.may S.makes s ms))
