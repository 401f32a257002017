-- The pigeonhole: n numbers below n, none of them twice, are all the numbers below n. By induction on n: where the top value
-- stands among the numbers before the last, the last is put in its place. Assumes nothing.
use Prim.Native.Nat.{ℕ, zero, suc, ◌<◌}
use mathlib.Core.Path.{◌≡◌, refl}
use mathlib.Core.Logic.{◌⊎◌, inl, inr, ◌≢◌}
use mathlib.Core.Bool.{Bool, true, false, cond}
use native.Mathlib.Decide.{ℕ_discrete}
use native.Mathlib.Omega.{arith}
use lib.Dec.{eqb}
use borrow.Author.Tests.{eqb-true, eqb-false}

-- the n numbers f 0, f 1, .. are below n
abbrev pub Small : ℕ → (ℕ → ℕ) → Type 0
Small n f = (i : ℕ) → i < n → f i < n

-- no two of the n numbers f 0, f 1, .. are equal
abbrev pub Once : ℕ → (ℕ → ℕ) → Type 0
Once n f = (i j : ℕ) → i < j → j < n → f i ≡ f j → ⊥

-- v is one of them
abbrev pub Stands : ℕ → (ℕ → ℕ) → ℕ → Type 0
Stands n f v = (i : ℕ) × (i < n) × (f i ≡ v)

-- x, with l in the place of the value n
exchange : ℕ → ℕ → ℕ → ℕ
exchange n l x = cond (eqb x n) l x

abbrev Exchanged : ℕ → ℕ → ℕ → Type 0
Exchanged n l x = ((x ≡ n) × (exchange n l x ≡ l)) ⊎ ((x ≢ n) × (exchange n l x ≡ x))

exchanged : (n l x : ℕ) → Exchanged n l x
unfolding exchange
exchanged n l x = go (eqb x n) refl
  where
    go : (t : Bool) → eqb x n ≡ t → Exchanged n l x
    go true e = inl (eqb-true x n e, rw e)
    go false e = inr (eqb-false x n e, rw e)

module _ (n : ℕ) (f : ℕ → ℕ) (small : Small (suc n) f) (once : Once (suc n) f) where
  rest : ℕ → ℕ
  rest i = exchange n (f n) (f i)

  rest-small : Small n rest
  unfolding rest
  rest-small i l = go (exchanged n (f n) (f i))
    where
      go : Exchanged n (f n) (f i) → rest i < n
      go (inl p) = omega (arith, once i n l (omega arith), small n (omega arith))
      go (inr p) = omega (arith, small i (omega arith))

  rest-once : Once n rest
  unfolding rest
  rest-once i j l u e = go (exchanged n (f n) (f i)) (exchanged n (f n) (f j))
    where
      apart : f i ≢ f j
      apart = once i j l (omega arith)

      go : Exchanged n (f n) (f i) → Exchanged n (f n) (f j) → ⊥
      go (inl p) (inl q) = omega (arith, apart)
      go (inl p) (inr q) = omega (arith, once j n u (omega arith))
      go (inr p) (inl q) = omega (arith, once i n (omega arith) (omega arith))
      go (inr p) (inr q) = omega (arith, apart)

  -- a value of the rest that is not the last is one of f's, and the last stands in the rest where the top was
  from-rest : (v : ℕ) → v ≢ f n → v < suc n → ((w : ℕ) → w < n → Stands n rest w) → Stands (suc n) f v
  unfolding rest
  from-rest v d h all = go (ℕ_discrete v n)
    where
      top : v ≡ n → (s : Stands n rest (f n)) → Exchanged n (f n) (f s.0) → Stands (suc n) f v
      top e s (inl p) = (s.0, omega arith, omega arith)
      top e s (inr p) = absurd (omega (arith, once s.0 n s.1 (omega arith)))

      lower : (s : Stands n rest v) → Exchanged n (f n) (f s.0) → Stands (suc n) f v
      lower s (inl p) = absurd (omega arith)
      lower s (inr p) = (s.0, omega arith, omega arith)

      go : Dec (v ≡ n) → Stands (suc n) f v
      go (yes e) = let s = all (f n) (omega (arith, small n (omega arith))) in top e s (exchanged n (f n) (f s.0))
      go (no e) = let s = all v (omega arith) in lower s (exchanged n (f n) (f s.0))

pub onto : (n : ℕ) (f : ℕ → ℕ) → Small n f → Once n f → (v : ℕ) → v < n → Stands n f v
onto zero f small once v h = absurd (omega arith)
onto (suc n) f small once v h =
    let all = onto n (rest n f small once) (rest-small n f small once) (rest-once n f small once) in
    elim (ℕ_discrete v (f n)) [
      | yes e ↦ (n, omega arith, omega arith)
      | no d ↦ from-rest n f small once v d h all
    ]
