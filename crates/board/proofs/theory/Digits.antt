-- Base 16: a list of digits as one number, the way back, what one store changes, and the shifts of a 64-bit word by four bits a digit.
--     packed-digits, digits-packed    the two ways are inverse
--     at-digits                       entry i of a number's digits is its digit i
--     packed-set                      what a store changes
--     shifted_right, shifted_left     a digit read out, and put at its place
-- Assumes nothing.
use Prim.Native.Nat.{ℕ, zero, suc, ◌+◌, ◌*◌, ◌/◌, ◌%◌, ◌^◌, ◌≤◌, ◌<◌}
use mathlib.Core.Path.{◌≡◌, refl, sym, ◌∙◌, ap}
use mathlib.Core.List.{List, [], ◌∷◌}
use native.Mathlib.Omega.{arith}
use native.Mathlib.Nat.{pow-suc, mul_comm, mul_assoc, div-div-eq-div-mul, div-mul-le_self, mod-le, mul-le-mul_right}
use native.Mathlib.Nat.{lt_of_lt_of_le, le_trans, pow-le-pow_right, zero-lt-suc}
use lib.ListN.{length, set}
use lib.Pow.{pow-add, shl_exact}
use Rattle.board.specs.Board.{at}
use Rattle.board.specs.Digits.{digits, digit}

-- how many numbers a word of 64 bits has
abbrev pub word : ℕ
word = 18446744073709551616

-- ---- powers of 16

power_next : (i : ℕ) → 16 ^ suc i ≡ 16 * 16 ^ i
power_next i = pow-suc 16 i ∙ mul_comm (16 ^ i) 16

-- four bits a digit
four_bits : (i : ℕ) → 2 ^ (4 * i) ≡ 16 ^ i
four_bits zero = refl
four_bits (suc i) =
    let more : 4 * suc i ≡ 4 + 4 * i = omega arith in
    ap (λ (k : ℕ). 2 ^ k) more ∙ pow-add 2 4 (4 * i) ∙ ap (λ (x : ℕ). 16 * x) (four_bits i) ∙ sym (power_next i)

one-place-up : (v i : ℕ) → v * 16 ^ suc i ≡ 16 * (v * 16 ^ i)
one-place-up v i =
    ap (λ (x : ℕ). v * x) (power_next i)
    ∙ sym (mul_assoc v 16 (16 ^ i))
    ∙ ap (λ (x : ℕ). x * 16 ^ i) (mul_comm v 16)
    ∙ mul_assoc 16 v (16 ^ i)

one-place-down : (x i : ℕ) → x / 16 ^ suc i ≡ x / 16 / 16 ^ i
one-place-down x i = ap (λ (y : ℕ). x / y) (power_next i) ∙ sym (div-div-eq-div-mul x 16 (16 ^ i))

-- ---- a list of digits as a number, its head the lowest

unfoldable pub packed : List ℕ → ℕ
packed [] = 0
packed (v ∷ vs) = v + 16 * packed vs

abbrev pub Small : List ℕ → Type 0
Small l = (i : ℕ) → i < length l → at l i < 16

tail-small : (v : ℕ) (vs : List ℕ) → Small (v ∷ vs) → Small vs
tail-small v vs small i h = small (suc i) (omega arith)

pub packed-below : (l : List ℕ) → Small l → packed l < 16 ^ length l
unfolding packed
packed-below [] small = omega arith
packed-below (v ∷ vs) small =
    omega (arith, packed-below vs (tail-small v vs small), power_next (length vs), small 0 (omega arith))

pub packed-word : (l : List ℕ) → Small l → length l ≤ 16 → packed l < word
packed-word l small short = lt_of_lt_of_le (packed-below l small) (pow-le-pow_right (zero-lt-suc 15) short)

pub packed-set : (l : List ℕ) (i v : ℕ) → i < length l → packed (set l i v) + at l i * 16 ^ i ≡ packed l + v * 16 ^ i
unfolding packed
packed-set [] i v h = absurd (omega arith)
packed-set (w ∷ ws) zero v h = omega arith
packed-set (w ∷ ws) (suc i) v h = omega (arith, packed-set ws i v (omega arith), one-place-up (at ws i) i, one-place-up v i)

-- ---- a number's digits

pub length_digits : (n x : ℕ) → length (digits n x) ≡ n
unfolding digits
length_digits zero x = refl
length_digits (suc n) x = ap suc (length_digits n (x / 16))

pub at-digits : (n x i : ℕ) → i < n → at (digits n x) i ≡ digit x i
unfolding digits
at-digits zero x i h = absurd (omega arith)
at-digits (suc n) x zero h = omega arith
at-digits (suc n) x (suc i) h = at-digits n (x / 16) i (omega arith) ∙ ap (λ (y : ℕ). y % 16) (sym (one-place-down x i))

pub digits-packed : (l : List ℕ) → Small l → digits (length l) (packed l) ≡ l
unfolding packed digits
digits-packed [] small = refl
digits-packed (v ∷ vs) small =
    let lowest : (v + 16 * packed vs) % 16 ≡ v = omega (arith, small 0 (omega arith)) in
    let others : (v + 16 * packed vs) / 16 ≡ packed vs = omega (arith, small 0 (omega arith)) in
    rw (lowest, others, digits-packed vs (tail-small v vs small))

pub packed-digits : (n x : ℕ) → x < 16 ^ n → packed (digits n x) ≡ x
unfolding packed digits
packed-digits zero x h = omega arith
packed-digits (suc n) x h =
    let below : x / 16 < 16 ^ n = omega (arith, power_next n) in
    omega (arith, packed-digits n (x / 16) below)

-- a digit at its place is a part of the number
pub digit_part : (x i : ℕ) → digit x i * 16 ^ i ≤ x
digit_part x i = le_trans (mul-le-mul_right (16 ^ i) (mod-le (x / 16 ^ i) 16)) (div-mul-le_self x (16 ^ i))

-- ---- the shifts of a word

pub shifted_right : (x i : ℕ) → x / 2 ^ (4 * i) % 16 ≡ digit x i
shifted_right x i = ap (λ (y : ℕ). x / y % 16) (four_bits i)

pub shifted_left : (v i : ℕ) → v < 16 → i < 16 → (v * 2 ^ (4 * i)) % word ≡ v * 16 ^ i
shifted_left v i small inside = shl_exact 4 (4 * i) 64 small (omega arith) ∙ ap (λ (y : ℕ). v * y) (four_bits i)
