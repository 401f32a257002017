-- Laws of digits: how many a text begins with, for a whole field and behind it, and what the value of a field is bounded by.
-- Assumes nothing.
use Prim.Native.Nat.{ℕ, ◌+◌, ◌≤◌, ◌<◌}
use native.Mathlib.Omega.{arith}
use native.Mathlib.Numerals.{one-add}
use mathlib.Core.Path.{◌≡◌, refl}
use mathlib.Core.Bool.{Bool, true, false, cond, ◌&&◌}
use mathlib.Core.List.{List, [], ◌∷◌, ◌++◌}
use lib.Dec.{leb}
use lib.ListN.{length, take}
use borrow.Author.Tests.{leb-true, le-leb, lt-leb}
use Rattle.std.proofs.Common.{rules}
use Rattle.std.proofs.lemmas.Str.Parse.{IsNumeralModel, numerals_by_fold, digits_value_short}
use Rattle.jobline.specs.Numeral.{Digit, Digits, value_from, value_of}
use Rattle.jobline.specs.Scan.{is_digit, run}

-- the test and what it tests
digit_true : (b : ℕ) → is_digit b ≡ true → Digit b
digit_true b e = go (leb 48 b) (leb b 57) refl refl e
  where
    go : (t u : Bool) → leb 48 b ≡ t → leb b 57 ≡ u → t && u ≡ true → Digit b
    go true true p q e = (leb-true 48 b p, leb-true b 57 q)
    go true false p q e = cc
    go false u p q e = cc

digit-is : (b : ℕ) → Digit b → is_digit b ≡ true
digit-is b d = simp (le-leb 48 b d.0, le-leb b 57 d.1)

-- a whole run
pub run-digits : (s : List ℕ) → Digits (take (run s) s)
run-digits [] = tt
run-digits (b ∷ s) = go (is_digit b) refl (run-digits s)
  where
    go : (t : Bool) → is_digit b ≡ t → Digits (take (run s) s) → Digits (take (cond t (1 + run s) 0) (b ∷ s))
    go true e d = rw one-add (digit_true b e, d)
    go false e d = tt

-- digits, and behind them none
pub run-low : (b : ℕ) (s : List ℕ) → b < 48 → run (b ∷ s) ≡ 0
run-low b s h = simp (lt-leb 48 b h)

pub run-append : (s t : List ℕ) → Digits s → run t ≡ 0 → run (s ++ t) ≡ length s
run-append [] t d e = e
run-append (b ∷ s) t d e = rw (digit-is b d.0, run-append s t d.1 e) (omega arith)

-- digits and what they are worth, as `parse` has them
pub numerals : IsNumeralModel Digits value_of
numerals = numerals_by_fold Digits (search rules) value_from (search rules)

-- nine digits are worth less than ten to the nine
pub value_small : (s : List ℕ) → Digits s → length s ≤ 9 → value_of s < 1000000000
value_small s d few = digits_value_short numerals s 9 d few
