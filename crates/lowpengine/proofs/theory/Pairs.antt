-- The table's bytes and its numbers: how many numbers there are; the numbers as bytes again, with the odd byte, are the bytes; and so
-- are they past any count of numbers. Then the bytes where the first numbers are cleared. Assumes nothing.
use Prim.Native.Nat.{ℕ, zero, suc, ◌+◌, ◌*◌, ◌/◌, ◌%◌, ◌≤◌, ◌<◌}
use mathlib.Core.Path.{◌≡◌, refl, sym, ap, ap₂, ◌∙◌}
use mathlib.Core.List.{List, [], ◌∷◌, ◌++◌, append_assoc}
use native.Mathlib.Nat.{le_of_suc-le-suc}
use native.Mathlib.Omega.{arith}
use lib.ListN.{length, drop, replicate}
use Rattle.lowpengine.specs.Bytes.{AllBytes, numbers, bytes_of, odd_byte}

pub count : (t : List ℕ) → length (numbers t) ≡ length t / 2
unfolding numbers
count [] = refl
count (only ∷ []) = refl
count (low ∷ (high ∷ rest)) = omega (arith, count rest)

-- a pair of bytes is its number's bytes
low_byte : (low high : ℕ) → low < 256 → (low + 256 * high) % 256 ≡ low
low_byte low high l = omega arith

high_byte : (low high : ℕ) → low < 256 → (low + 256 * high) / 256 ≡ high
high_byte low high l = omega arith

pub back-to-bytes : (t : List ℕ) → AllBytes t → bytes_of (numbers t) ++ odd_byte t ≡ t
unfolding numbers bytes_of odd_byte
back-to-bytes [] b = refl
back-to-bytes (only ∷ []) b = refl
back-to-bytes (low ∷ (high ∷ rest)) b =
    ap₂ (λ x l. x ∷ l) (low_byte low high (b 0))
    (ap₂ (λ x l. x ∷ l) (high_byte low high (b 0)) (back-to-bytes rest (λ i. b (suc (suc i)))))

two-more : (k : ℕ) → 2 * suc k ≡ suc (suc (2 * k))
two-more k = omega arith

past : (k : ℕ) (t : List ℕ) → AllBytes t → k ≤ length (numbers t) → bytes_of (drop k (numbers t)) ++ odd_byte t ≡ drop (2 * k) t
unfolding numbers bytes_of odd_byte
past zero t b l = back-to-bytes t b
past (suc k) [] b l = absurd (omega arith)
past (suc k) (only ∷ []) b l = absurd (omega arith)
past (suc k) (low ∷ (high ∷ rest)) b l =
    past k rest (λ i. b (suc (suc i))) (le_of_suc-le-suc l)
    ∙ ap (λ n. drop n (low ∷ (high ∷ rest))) (sym (two-more k))

joined : (a b : List ℕ) → bytes_of (a ++ b) ≡ bytes_of a ++ bytes_of b
unfolding bytes_of
joined [] b = refl
joined (n ∷ a) b = ap (λ l. (n % 256) ∷ ((n / 256) ∷ l)) (joined a b)

zeros : (k : ℕ) → bytes_of (replicate k 0) ≡ replicate (2 * k) 0
unfolding bytes_of
zeros zero = refl
zeros (suc k) = ap (λ l. 0 ∷ (0 ∷ l)) (zeros k) ∙ ap (λ n. replicate n 0) (sym (two-more k))

-- the first k numbers cleared, and so the first 2k bytes
pub cleared-bytes : (k : ℕ) (t : List ℕ) → AllBytes t → k ≤ length (numbers t)
    → bytes_of (replicate k 0 ++ drop k (numbers t)) ++ odd_byte t ≡ replicate (2 * k) 0 ++ drop (2 * k) t
cleared-bytes k t b l =
    ap (λ x. x ++ odd_byte t) (joined (replicate k 0) (drop k (numbers t)))
    ∙ append_assoc (bytes_of (replicate k 0)) (bytes_of (drop k (numbers t))) (odd_byte t)
    ∙ ap₂ (λ x y. x ++ y) (zeros k) (past k t b l)
