-- The swap lemma: where two values of a list without repeats are exchanged, the parity of its inversions turns. By counting: how
-- many values a number has below and above it, what one store changes in `lower` and in `inversions`; then the exchange of the
-- first value with a later one, and of any two by going down the list. Assumes nothing.
use Prim.Native.Nat.{ℕ, zero, suc, ◌+◌, ◌%◌, ◌<◌}
use mathlib.Core.Path.{◌≡◌, refl, sym, ap}
use mathlib.Core.Logic.{◌≢◌}
use mathlib.Core.Bool.{cond}
use mathlib.Core.List.{List, [], ◌∷◌}
use native.Mathlib.Decide.{dec_lt}
use native.Mathlib.Omega.{arith}
use lib.Dec.{ltb}
use lib.ListN.{length, set, take, drop}
use lib.Seq.{set_comm, get_or-set_other, lt-length-set, length-take-le, get_or-take}
use borrow.Author.Tests.{lt-ltb, le-ltb}
use Rattle.board.specs.Board.{at}
use Rattle.board.specs.Parity.{lower, inversions}
use Rattle.board.proofs.theory.Onto.{Once}
use Rattle.board.proofs.theory.Swaps.{swapped}

-- 1 where y is below x, else 0: what y adds to `lower x`
abbrev less : ℕ → ℕ → ℕ
less y x = cond (ltb y x) 1 0

-- how many of the values are above x
upper : ℕ → List ℕ → ℕ
upper x [] = 0
upper x (y ∷ ys) = less x y + upper x ys

-- ---- below, above

less_self : (x : ℕ) → less x x ≡ 0
less_self x = rw (le-ltb x x (omega arith))

less_either : (x y : ℕ) → x ≢ y → less x y + less y x ≡ 1
less_either x y d =
    elim (dec_lt x y) [
      | yes l ↦ rw (lt-ltb x y l, le-ltb y x (omega arith))
      | no l ↦ rw (le-ltb x y (omega arith), lt-ltb y x (omega arith))
    ]

-- of values that are none of them x, each is below it or above it
lower-upper : (x : ℕ) (ys : List ℕ) → ((k : ℕ) → k < length ys → at ys k ≢ x) → lower x ys + upper x ys ≡ length ys
unfolding lower upper
lower-upper x [] none = refl
lower-upper x (y ∷ ys) none =
    omega (arith, less_either y x (none 0 (omega arith)), lower-upper x ys (λ k h. none (suc k) (omega arith)))

lower-split :
    (x : ℕ) (ys : List ℕ) (k : ℕ)
    → k < length ys
    → lower x ys ≡ lower x (take k ys) + less (at ys k) x + lower x (drop (suc k) ys)
unfolding lower
lower-split x [] k h = absurd (omega arith)
lower-split x (y ∷ ys) zero h = omega arith
lower-split x (y ∷ ys) (suc k) h = omega (arith, lower-split x ys k (omega arith))

-- ---- one store

lower-set : (z : ℕ) (ys : List ℕ) (k x : ℕ) → k < length ys → lower z (set ys k x) + less (at ys k) z ≡ lower z ys + less x z
unfolding lower
lower-set z [] k x h = absurd (omega arith)
lower-set z (y ∷ ys) zero x h = omega arith
lower-set z (y ∷ ys) (suc k) x h = omega (arith, lower-set z ys k x (omega arith))

-- the inversions that the value x would have in cell k
at_place : ℕ → List ℕ → ℕ → ℕ
at_place x ys k = upper x (take k ys) + lower x (drop (suc k) ys)

inversions-set :
    (ys : List ℕ) (k x : ℕ)
    → k < length ys
    → inversions (set ys k x) + at_place (at ys k) ys k ≡ inversions ys + at_place x ys k
unfolding inversions at_place upper
inversions-set [] k x h = absurd (omega arith)
inversions-set (y ∷ ys) zero x h = omega arith
inversions-set (y ∷ ys) (suc k) x h = omega (arith, inversions-set ys k x (omega arith), lower-set y ys k x (omega arith))

-- ---- the first value and a later one

module _ (x : ℕ) (ys : List ℕ) (once : Once (suc (length ys)) (at (x ∷ ys))) (k : ℕ) (h : k < length ys) where
  before : List ℕ
  before = take k ys

  before-long : length before ≡ k
  unfolding before
  before-long = length-take-le k ys (omega arith)

  before_at : (j : ℕ) → j < length before → at before j ≡ at ys j
  unfolding before
  before_at j l = get_or-take k ys j 0 (omega (arith, before-long))

  x-apart : (j : ℕ) → j < length before → at before j ≢ x
  x-apart j l = omega (arith, before_at j l, once 0 (suc j) (omega arith) (omega (arith, before-long)))

  y_apart : (j : ℕ) → j < length before → at before j ≢ at ys k
  y_apart j l = omega (arith, before_at j l, once (suc j) (suc k) (omega (arith, before-long)) (omega arith))

  swap_first : (inversions (at ys k ∷ set ys k x) + inversions (x ∷ ys)) % 2 ≡ 1
  unfolding inversions at_place before
  swap_first =
      let y = at ys k in
      let stored = lower-set y ys k x h in
      let self = less_self y in
      let either = less_either x y (once 0 (suc k) (omega arith) (omega arith)) in
      let split-x = lower-split x ys k h in
      let split-y = lower-split y ys k h in
      let all-x = lower-upper x before x-apart in
      let all-y = lower-upper y before y_apart in
      let inner = inversions-set ys k x h in
      omega arith

-- ---- any two values

swap_lower : (z : ℕ) (b : List ℕ) (i j : ℕ) → i ≢ j → i < length b → j < length b → lower z (swapped b i j) ≡ lower z b
swap_lower z b i j d p q =
    let first = lower-set z b i (at b j) p in
    let second = lower-set z (set b i (at b j)) j (at b i) (lt-length-set b i (at b j) q) in
    let kept = ap (λ v. less v z) (get_or-set_other b i j (at b j) 0 (λ e. d (sym e))) in
    omega arith

swap_later :
    (b : List ℕ) (i j : ℕ)
    → Once (length b) (at b)
    → i < j
    → j < length b
    → (inversions (swapped b i j) + inversions b) % 2 ≡ 1
unfolding inversions
swap_later [] i j once l h = absurd (omega arith)
swap_later (x ∷ xs) zero zero once l h = absurd (omega arith)
swap_later (x ∷ xs) zero (suc j) once l h = swap_first x xs once j (omega arith)
swap_later (x ∷ xs) (suc i) zero once l h = absurd (omega arith)
swap_later (x ∷ xs) (suc i) (suc j) once l h =
    omega (
      arith,
      swap_later xs i j (λ u v m n. once (suc u) (suc v) (omega arith) (omega arith)) (omega arith) (omega arith),
      swap_lower x xs i j (omega arith) (omega arith) (omega arith),
    )

pub swap_turns-inversions :
    (b : List ℕ) (i j : ℕ)
    → Once (length b) (at b)
    → i ≢ j
    → i < length b
    → j < length b
    → (inversions (swapped b i j) + inversions b) % 2 ≡ 1
swap_turns-inversions b i j once d p q =
    elim (dec_lt i j) [
      | yes l ↦ swap_later b i j once l q
      | no l ↦ rw (set_comm b i j (at b j) (at b i) d) (swap_later b j i once (omega arith) p)
    ]
