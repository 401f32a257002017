-- An answer in one number, as visits once handed it up: what the number reads as by its three parts, and the numbers that were made.
-- Assumes nothing.
use Prim.Native.Nat.{ℕ, ◌+◌, ◌*◌, ◌/◌, ◌%◌, ◌≤◌, ◌<◌}
use mathlib.Core.Path.{◌≡◌}
use mathlib.Core.Bool.{cond}
use native.Mathlib.Omega.{arith}
use lib.Dec.{eqb}
use borrow.Author.Tests.{ne_eqb}
use Rattle.search.specs.declared.Out.TheVariants.{Found, Value, Spent}
use Rattle.search.specs.Run.{answer_of}

-- ---- the number read

module _ (x : ℕ) where
  pub reads_value : x / 281474976710656 ≡ 0 → Value (x / 4294967296 % 65536) (x % 4294967296) ≡ answer_of x
  unfolding answer_of
  reads_value e = rw e

  pub reads_found : x / 281474976710656 ≡ 1 → Found (x / 4294967296 % 65536) (x % 4294967296) ≡ answer_of x
  unfolding answer_of
  reads_found e = rw e

  pub reads_spent : (x / 281474976710656 ≡ 0 → ⊥) → (x / 281474976710656 ≡ 1 → ⊥) → Spent ≡ answer_of x
  unfolding answer_of
  reads_spent a b = rw (ne_eqb (x / 281474976710656) 0 a, ne_eqb (x / 281474976710656) 1 b)

-- ---- the number made

by_parts : (x kind n left : ℕ) → x / 281474976710656 ≡ kind → x / 4294967296 % 65536 ≡ n → x % 4294967296 ≡ left
    → answer_of x ≡ cond (eqb kind 0) (Value n left) (cond (eqb kind 1) (Found n left) Spent)
unfolding answer_of
by_parts x kind n left a b c = rw (a, b, c)

pub value-told : (v left : ℕ) → v < 65536 → left < 4294967296 → answer_of (4294967296 * v + left) ≡ Value v left
value-told v left small few = by_parts (4294967296 * v + left) 0 v left (omega arith) (omega arith) (omega arith)

pub found-told : (n left : ℕ) → n ≤ 120 → left < 4294967296 → answer_of (281474976710656 + 4294967296 * n + left) ≡ Found n left
found-told n left small few =
    by_parts (281474976710656 + 4294967296 * n + left) 1 n left (omega arith) (omega arith) (omega arith)

pub spent-told : answer_of 562949953421312 ≡ Spent
spent-told = by_parts 562949953421312 2 0 0 (omega arith) (omega arith) (omega arith)
