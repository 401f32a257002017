-- Numbers of which one is one more than the other: the relation, how it goes through a sum, and that of two such numbers one is
-- nearer by one to any third. Assumes nothing.
use Prim.Native.Nat.{ℕ, suc, ◌+◌}
use mathlib.Core.Path.{◌≡◌}
use mathlib.Core.Logic.{◌⊎◌, inl, inr}
use native.Mathlib.Decide.{dec_lt}
use native.Mathlib.Omega.{arith}
use Rattle.board.specs.Distance.{apart}

abbrev pub OneApart : ℕ → ℕ → Type 0
OneApart a c = (a ≡ 1 + c) ⊎ (c ≡ 1 + a)

pub one-apart_sym : {a c : ℕ} → OneApart a c → OneApart c a
one-apart_sym (inl h) = inr h
one-apart_sym (inr h) = inl h

-- a + x and c + y are equal, and a and c are one apart: so are x and y
pub one-apart_across : (a c x y : ℕ) → a + x ≡ c + y → OneApart a c → OneApart y x
one-apart_across a c x y e (inl h) = inl (omega arith)
one-apart_across a c x y e (inr h) = inr (omega arith)

-- equal numbers are added on the right, or on the left
pub one-apart-right : (a c : ℕ) {x y : ℕ} → OneApart a c → x ≡ y → OneApart (a + x) (c + y)
one-apart-right a c (inl h) e = inl (omega arith)
one-apart-right a c (inr h) e = inr (omega arith)

pub one-apart-left : (a c : ℕ) {x y : ℕ} → x ≡ y → OneApart a c → OneApart (x + a) (y + c)
one-apart-left a c e (inl h) = inl (omega arith)
one-apart-left a c e (inr h) = inr (omega arith)

-- a step from c to c + 1 is a step nearer to j or farther from it
pub apart_step : (a c j : ℕ) → a ≡ suc c → OneApart (apart a j) (apart c j)
apart_step a c j e = elim (dec_lt c j) [ yes l ↦ inr (omega arith) | no l ↦ inl (omega arith) ]
