-- How many cells of a board do not hold their own number, and what a store changes in that. Where two such cells are stored to and the
-- second gets its own number, there are fewer by one or two. Assumes nothing.
use Prim.Native.Nat.{ℕ, zero, suc, ◌+◌, ◌≤◌, ◌<◌}
use mathlib.Core.Path.{◌≡◌, refl, sym, ap}
use mathlib.Core.Logic.{◌≢◌}
use mathlib.Core.Bool.{Bool, true, false, cond}
use mathlib.Core.List.{List, [], ◌∷◌}
use native.Mathlib.Omega.{arith}
use lib.Dec.{eqb}
use lib.ListN.{length, set}
use lib.Seq.{get_or-set_other, lt-length-set}
use borrow.Author.Tests.{eq-eqb, ne_eqb}
use Rattle.board.specs.Board.{at}

-- 1 where the value x of cell i is not its own number, else 0
abbrev away : ℕ → ℕ → ℕ
away i x = cond (eqb x i) 0 1

-- the same, summed over the cells i, i + 1, ..
pub away_from : ℕ → List ℕ → ℕ
away_from i [] = 0
away_from i (x ∷ xs) = away i x + away_from (suc i) xs

at_home : (i x : ℕ) → x ≡ i → away i x ≡ 0
at_home i x e = rw (eq-eqb x i e)

not_home : (i x : ℕ) → x ≢ i → away i x ≡ 1
not_home i x d = rw (ne_eqb x i d)

at-most_1 : (i x : ℕ) → away i x ≤ 1
at-most_1 i x = go (eqb x i)
  where
    go : (t : Bool) → cond t 0 1 ≤ 1
    go true = omega arith
    go false = omega arith

pub away-most : (i : ℕ) (b : List ℕ) → away_from i b ≤ length b
unfolding away_from
away-most i [] = omega arith
away-most i (x ∷ xs) = omega (arith, at-most_1 i x, away-most (suc i) xs)

-- a store into the k-th of the cells from i on, which is cell p
away-set :
    (b : List ℕ) (i k p v : ℕ)
    → p ≡ i + k
    → k < length b
    → away_from i (set b k v) + away p (at b k) ≡ away_from i b + away p v
unfolding away_from
away-set [] i k p v e h = absurd (omega arith)
away-set (x ∷ xs) i zero p v e h = let q : p ≡ i = omega arith in rw q (omega arith)
away-set (x ∷ xs) i (suc k) p v e h = omega (arith, away-set xs (suc i) k p v (omega arith) (omega arith))

-- two stores into cells that did not hold their own numbers: the second puts a value home
module _ (b : List ℕ) (i v : ℕ) (differ : i ≢ v) (p : i < length b) (q : v < length b) (d : at b i ≢ i) (e : at b v ≢ v) where
  stored : (x : ℕ) → away_from 0 (set (set b i x) v v) + 2 ≡ away_from 0 b + away i x
  stored x =
      let first = away-set b 0 i i x (omega arith) p in
      let second = away-set (set b i x) 0 v v v (omega arith) (lt-length-set b i x q) in
      let kept = ap (away v) (get_or-set_other b i v x 0 (λ h. differ (sym h))) in
      omega (arith, first, second, kept, not_home i (at b i) d, not_home v (at b v) e, at_home v v refl)

  pub two-away : 2 ≤ away_from 0 b
  two-away = omega (arith, stored i, at_home i i refl)

  pub one_less : away_from 0 (set (set b i (at b v)) v v) + 1 ≤ away_from 0 b
  one_less = omega (arith, stored (at b v), at-most_1 i (at b v))
