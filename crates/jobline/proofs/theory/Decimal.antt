-- A number in decimal: how it is made one digit at a time, that its digits are worth the number, that the first is no 0 unless the
-- number is 0, and how long it is. Assumes nothing.
use Prim.Native.Nat.{ℕ, zero, suc, ◌+◌, ◌*◌, ◌-◌, ◌/◌, ◌%◌, ◌^◌, ◌≤◌, ◌<◌}
use native.Mathlib.Omega.{arith}
use native.Mathlib.Nat.{pow-suc, one-le-pow}
use mathlib.Core.Path.{◌≡◌, refl, ap, sym, ◌∙◌}
use mathlib.Core.Bool.{Bool, true, false}
use mathlib.Core.List.{List, [], ◌∷◌, ◌++◌}
use lib.Dec.{ltb}
use lib.ListN.{length, get_or, length-append, get_or-append}
use borrow.Author.Tests.{ltb-true, ltb-false, lt-ltb, le-ltb}
use Rattle.jobline.specs.Numeral.{Digits, value_from, value_of, Numeral}
use Rattle.jobline.specs.Line.{digits_of, decimal}

-- one digit at a time, whatever the bound
digits-small : (k n : ℕ) → n < 10 → digits_of k n ≡ (48 + n) ∷ []
unfolding digits_of
digits-small zero n h = refl
digits-small (suc k) n h = rw (lt-ltb n 10 h)

digits_more : (k n : ℕ) → 10 ≤ n → digits_of (suc k) n ≡ digits_of k (n / 10) ++ (48 + n % 10) ∷ []
unfolding digits_of
digits_more k n h = rw (le-ltb n 10 h)

digits_same : (k j n : ℕ) → n ≤ k → n ≤ j → digits_of k n ≡ digits_of j n
digits_same zero j n h g = digits-small 0 n (omega arith) ∙ sym (digits-small j n (omega arith))
digits_same (suc k) zero n h g = digits-small (suc k) n (omega arith) ∙ sym (digits-small 0 n (omega arith))
digits_same (suc k) (suc j) n h g = go (ltb n 10) refl (digits_same k j (n / 10))
  where
    go : (t : Bool) → ltb n 10 ≡ t → (n / 10 ≤ k → n / 10 ≤ j → digits_of k (n / 10) ≡ digits_of j (n / 10))
        → digits_of (suc k) n ≡ digits_of (suc j) n
    go true e ih = digits-small (suc k) n (ltb-true n 10 e) ∙ sym (digits-small (suc j) n (ltb-true n 10 e))
    go false e ih =
        let h' : 10 ≤ n = ltb-false n 10 e in
        digits_more k n h'
        ∙ ap (λ (s : List ℕ). s ++ (48 + n % 10) ∷ []) (ih (omega arith) (omega arith))
        ∙ sym (digits_more j n h')

pub decimal-small : (n : ℕ) → n < 10 → decimal n ≡ (48 + n) ∷ []
unfolding decimal
decimal-small n h = digits-small n n h

pub decimal-more : (n : ℕ) → 10 ≤ n → decimal n ≡ decimal (n / 10) ++ (48 + n % 10) ∷ []
unfolding decimal
decimal-more zero h = absurd (omega arith)
decimal-more (suc n) h =
    digits_more n (suc n) h
    ∙ ap (λ (s : List ℕ). s ++ (48 + suc n % 10) ∷ []) (digits_same n (suc n / 10) (suc n / 10) (omega arith) (omega arith))

-- what holds of one digit, and of a digit more where it holds of those before it, holds of every number in decimal
pub by_digits : (P : ℕ → List ℕ → Type 0) → ((n : ℕ) → n < 10 → P n ((48 + n) ∷ []))
    → ((n : ℕ) → 10 ≤ n → P (n / 10) (decimal (n / 10)) → P n (decimal (n / 10) ++ (48 + n % 10) ∷ []))
    → (n : ℕ) → P n (decimal n)
by_digits P one more n = go n n (omega arith)
  where
    go : (k n : ℕ) → n ≤ k → P n (decimal n)
    go zero n h = rw (decimal-small n (omega arith)) (one n (omega arith))
    go (suc k) n h = pick (ltb n 10) refl (go k (n / 10))
      where
        pick : (t : Bool) → ltb n 10 ≡ t → (n / 10 ≤ k → P (n / 10) (decimal (n / 10))) → P n (decimal n)
        pick true e ih = rw (decimal-small n (ltb-true n 10 e)) (one n (ltb-true n 10 e))
        pick false e ih =
            let h' : 10 ≤ n = ltb-false n 10 e in
            rw (decimal-more n h') (more n h' (ih (omega arith)))

digits_append : (s t : List ℕ) → Digits s → Digits t → Digits (s ++ t)
digits_append [] t d e = e
digits_append (b ∷ s) t d e = (d.0, digits_append s t d.1 e)

value-append : (s t : List ℕ) (v : ℕ) → value_from v (s ++ t) ≡ value_from (value_from v s) t
value-append [] t v = refl
value-append (b ∷ s) t v = value-append s t (v * 10 + (b - 48))

pub decimal-digits : (n : ℕ) → Digits (decimal n)
decimal-digits n =
    by_digits (λ n s. Digits s) (λ n h. (omega arith, tt))
    (λ n h d. digits_append (decimal (n / 10)) ((48 + n % 10) ∷ []) d (omega arith, tt)) n

pub decimal-value : (n : ℕ) → value_of (decimal n) ≡ n
decimal-value n =
    by_digits (λ n s. value_of s ≡ n) (λ n h. omega arith)
    (λ n h e. value-append (decimal (n / 10)) ((48 + n % 10) ∷ []) 0 ∙ rw e (omega arith)) n

pub decimal-some : (n : ℕ) → 1 ≤ length (decimal n)
decimal-some n =
    by_digits (λ n s. 1 ≤ length s) (λ n h. omega arith) (λ n h e. rw length-append (omega arith)) n

-- the first digit is no 0 unless the number is 0
pub decimal-first : (n : ℕ) → 1 ≤ n → 49 ≤ get_or (decimal n) 0 0
decimal-first n =
    by_digits (λ n s. 1 ≤ n → 49 ≤ get_or s 0 0) (λ n h k. omega arith)
    (λ n h ih k. rw (get_or-append (decimal (n / 10)) _ 0 0 (decimal-some (n / 10))) (ih (omega arith))) n

pub decimal-length : (n k : ℕ) → n < 10 ^ suc k → length (decimal n) ≤ suc k
decimal-length n k h =
    by_digits (λ n s. (k : ℕ) → n < 10 ^ suc k → length s ≤ suc k) (λ n h k g. omega arith) longer n k h
  where
    longer : (n : ℕ) → 10 ≤ n → ((k : ℕ) → n / 10 < 10 ^ suc k → length (decimal (n / 10)) ≤ suc k)
        → (k : ℕ) → n < 10 ^ suc k → length (decimal (n / 10) ++ (48 + n % 10) ∷ []) ≤ suc k
    longer n h ih zero g = absurd (omega (arith, pow-suc 10 0))
    longer n h ih (suc k) g = rw length-append (omega (arith, ih k (omega (arith, pow-suc 10 (suc k)))))

pub decimal-long : (n k : ℕ) → 10 ^ k ≤ n → suc k ≤ length (decimal n)
decimal-long n k h =
    by_digits (λ n s. (k : ℕ) → 10 ^ k ≤ n → suc k ≤ length s) short longer n k h
  where
    short : (n : ℕ) → n < 10 → (k : ℕ) → 10 ^ k ≤ n → suc k ≤ 1
    short n h zero g = omega arith
    short n h (suc k) g = absurd (omega (arith, pow-suc 10 k, one-le-pow k 10 (omega arith)))

    longer : (n : ℕ) → 10 ≤ n → ((k : ℕ) → 10 ^ k ≤ n / 10 → suc k ≤ length (decimal (n / 10)))
        → (k : ℕ) → 10 ^ k ≤ n → suc k ≤ length (decimal (n / 10) ++ (48 + n % 10) ∷ [])
    longer n h ih zero g = rw length-append (omega arith)
    longer n h ih (suc k) g = rw length-append (omega (arith, ih k (omega (arith, pow-suc 10 k))))

-- a number of at most nine digits in decimal is a number of the grammar
pub decimal_numeral : (n : ℕ) → n < 1000000000 → Numeral (decimal n) n
decimal_numeral n h =
    record { digits = decimal-digits n; some = decimal-some n; few = decimal-length n 8 h; value = decimal-value n }
