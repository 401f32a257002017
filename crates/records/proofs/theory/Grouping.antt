-- Laws of seven-bit groups, in this order: how they are made one group at a time; that they spell the number; that no other shortest
-- form does, and none is shorter; how many there are; numbers one behind the other. Assumes nothing.
use Prim.Native.Nat.{ℕ, zero, suc, ◌+◌, ◌*◌, ◌/◌, ◌%◌, ◌^◌, ◌≤◌, ◌<◌}
use native.Mathlib.Omega.{arith}
use native.Mathlib.Nat.{pow-suc}
use mathlib.Core.Path.{◌≡◌, refl, sym, ap, ◌∙◌}
use mathlib.Core.List.{List, [], ◌∷◌, ◌++◌, append_assoc, append-nil}
use lib.ListN.{length, get_or, take, drop, length-append, take-append-drop}
use lib.Seq.{take-suc}
use Rattle.records.specs.Groups.{leading_of, leading, groups, worth_from, worth, Grouped, last, more, Spells, spelled}

-- ---- one group at a time, whatever the bound

leading-same : (k j n : ℕ) → n ≤ k → n ≤ j → leading_of k n ≡ leading_of j n
unfolding leading_of
leading-same zero zero zero h g = refl
leading-same zero (suc j) zero h g = refl
leading-same (suc k) zero zero h g = refl
leading-same (suc k) (suc j) zero h g = refl
leading-same zero j (suc n) h g = absurd (omega arith)
leading-same (suc k) zero (suc n) h g = absurd (omega arith)
leading-same (suc k) (suc j) (suc n) h g = rw (leading-same k j (suc n / 128) (omega arith) (omega arith))

pub leading-none : leading 0 ≡ []
unfolding leading leading_of
leading-none = refl

pub leading-more : (n : ℕ) → 0 < n → leading n ≡ leading (n / 128) ++ (128 + n % 128) ∷ []
unfolding leading leading_of
leading-more zero h = absurd (omega arith)
leading-more (suc n) h =
    ap (λ front. front ++ (128 + suc n % 128) ∷ []) (leading-same n (suc n / 128) (suc n / 128) (omega arith) (omega arith))

pub groups_are : (n : ℕ) → groups n ≡ leading (n / 128) ++ (n % 128) ∷ []
unfolding groups
groups_are n = refl

pub groups-small : (n : ℕ) → n < 128 → groups n ≡ n ∷ []
groups-small n h =
    let none : n / 128 ≡ 0 = omega arith in
    let all : n % 128 ≡ n = omega arith in
    groups_are n ∙ rw (none, all, leading-none)

-- what holds of no groups, and of one group more where it holds of those before it, holds of the leading groups of every number
by_groups :
    (P : ℕ → List ℕ → Type 0)
    → P 0 []
    → ((n : ℕ) → 0 < n → P (n / 128) (leading (n / 128)) → P n (leading (n / 128) ++ (128 + n % 128) ∷ []))
    → (n : ℕ) → P n (leading n)
by_groups P none step n = go n n (omega arith)
  where
    one : (n k : ℕ) → n ≤ suc k → (n / 128 ≤ k → P (n / 128) (leading (n / 128))) → P n (leading n)
    one zero k h ih = rw leading-none none
    one (suc n) k h ih = rw (leading-more (suc n) (omega arith)) (step (suc n) (omega arith) (ih (omega arith)))

    go : (k n : ℕ) → n ≤ k → P n (leading n)
    go zero n h = let e : n ≡ 0 = omega arith in rw (e, leading-none) none
    go (suc k) n h = one n k h (go k (n / 128))

-- ---- the groups spell the number

leading-grouped : (n : ℕ) (t : List ℕ) → Grouped t → Grouped (leading n ++ t)
leading-grouped =
    by_groups (λ n s. (t : List ℕ) → Grouped t → Grouped (s ++ t)) (λ t g. g)
    (λ n h ih t g. rw append_assoc (ih ((128 + n % 128) ∷ t) (more (omega arith) (omega arith) g)))

leading-worth : (n : ℕ) (t : List ℕ) → worth (leading n ++ t) ≡ worth_from n t
leading-worth =
    by_groups (λ n s. (t : List ℕ) → worth (s ++ t) ≡ worth_from n t) (λ t. refl)
    (λ n h ih t.
    let back : n / 128 * 128 + (128 + n % 128) % 128 ≡ n = omega arith in
    rw append_assoc (ih ((128 + n % 128) ∷ t) ∙ ap (λ v. worth_from v t) back))

leading-first : (n : ℕ) (t : List ℕ) → 0 < n → get_or (leading n ++ t) 0 0 ≡ 128 → ⊥
leading-first =
    by_groups (λ n s. (t : List ℕ) → 0 < n → get_or (s ++ t) 0 0 ≡ 128 → ⊥) (λ t h. absurd (omega arith))
    (λ n h ih t h'. rw append_assoc (go n h (n / 128) refl t (ih ((128 + n % 128) ∷ t))))
  where
    go : (n : ℕ) → 0 < n → (m : ℕ) → n / 128 ≡ m → (t : List ℕ)
        → (0 < n / 128 → get_or (leading (n / 128) ++ (128 + n % 128) ∷ t) 0 0 ≡ 128 → ⊥)
        → get_or (leading (n / 128) ++ (128 + n % 128) ∷ t) 0 0 ≡ 128 → ⊥
    go n h zero e t ih = rw (e, leading-none) (λ f. omega arith)
    go n h (suc m) e t ih = ih (omega arith)

pub groups_spell : (n : ℕ) → Spells (groups n) n
groups_spell n = rw (groups_are n) (record {
  grouped = leading-grouped (n / 128) _ (last (omega arith));
  shortest = first (n / 128) refl;
  worth = leading-worth (n / 128) _ ∙ omega arith;
})
  where
    first : (m : ℕ) → n / 128 ≡ m → get_or (leading (n / 128) ++ (n % 128) ∷ []) 0 0 ≡ 128 → ⊥
    first zero e = rw (e, leading-none) (λ f. omega arith)
    first (suc m) e = leading-first (n / 128) _ (omega arith)

-- ---- and no other shortest form does

leading-next : (v b : ℕ) → 128 ≤ b → b < 256 → 0 < v * 128 + b % 128 → leading (v * 128 + b % 128) ≡ leading v ++ b ∷ []
leading-next v b low high h =
    let front : (v * 128 + b % 128) / 128 ≡ v = omega arith in
    let own : 128 + (v * 128 + b % 128) % 128 ≡ b = omega arith in
    leading-more (v * 128 + b % 128) h ∙ rw (front, own)

-- groups behind the leading groups of v; a first group of 0 only where some stand before it
grouped-whole : {s : List ℕ} → Grouped s → (v : ℕ) → (v ≡ 0 → get_or s 0 0 ≡ 128 → ⊥) → leading v ++ s ≡ groups (worth_from v s)
grouped-whole (last {b} small) v first =
    let front : (v * 128 + b % 128) / 128 ≡ v = omega arith in
    let own : (v * 128 + b % 128) % 128 ≡ b = omega arith in
    sym (groups_are (v * 128 + b % 128) ∙ rw (front, own))
grouped-whole (more {b} {s} low high rest) v first =
    sym (append_assoc (leading v) (b ∷ []) s)
    ∙ ap (λ front. front ++ s) (sym (leading-next v b low high (some v first)))
    ∙ grouped-whole rest (v * 128 + b % 128) (λ e. absurd (omega (arith, some v first)))
  where
    some : (v : ℕ) → (v ≡ 0 → b ≡ 128 → ⊥) → 0 < v * 128 + b % 128
    some zero first = go (b % 128) refl
      where
        go : (r : ℕ) → b % 128 ≡ r → 0 < 0 * 128 + b % 128
        go zero e = absurd (first refl (omega arith))
        go (suc r) e = omega arith
    some (suc v) first = omega arith

pub groups_only : {s : List ℕ} {n : ℕ} → Spells s n → s ≡ groups n
groups_only {s} {n} spells =
    sym (ap (λ front. front ++ s) leading-none)
    ∙ grouped-whole spells.grouped 0 (λ e. spells.shortest)
    ∙ ap groups spells.worth

-- a form that begins with 128 is longer: none is shorter
pub groups-shortest : {s : List ℕ} → Grouped s → length (groups (worth s)) ≤ length s
groups-shortest (last {b} small) = rw (groups-small (0 * 128 + b % 128) (omega arith)) (omega arith)
groups-shortest (more {b} {s} low high rest) = go (b % 128) refl (groups-shortest rest)
  where
    go : (r : ℕ) → b % 128 ≡ r → length (groups (worth s)) ≤ length s → length (groups (worth (b ∷ s))) ≤ length (b ∷ s)
    go zero e ih =
        let nothing : 0 * 128 + b % 128 ≡ 0 = omega arith in
        omega (arith, ap (λ v. length (groups (worth_from v s))) nothing)
    go (suc r) e ih =
        let whole : Spells (b ∷ s) (worth (b ∷ s)) = record { grouped = more low high rest; shortest = λ f. omega arith; worth = refl } in
        omega (arith, ap length (groups_only whole))

-- ---- how many groups

pub leading-longer : (n : ℕ) → 0 < n → length (leading n) ≡ length (leading (n / 128)) + 1
leading-longer n h = rw (leading-more n h, length-append)

pub groups-longer : (n : ℕ) → length (groups n) ≡ length (leading (n / 128)) + 1
groups-longer n = rw (groups_are n, length-append)

leading-few : (n k : ℕ) → n < 128 ^ k → length (leading n) ≤ k
leading-few = by_groups (λ n s. (k : ℕ) → n < 128 ^ k → length s ≤ k) (λ k h. omega arith) longer
  where
    longer : (n : ℕ) → 0 < n → ((k : ℕ) → n / 128 < 128 ^ k → length (leading (n / 128)) ≤ k)
        → (k : ℕ) → n < 128 ^ k → length (leading (n / 128) ++ (128 + n % 128) ∷ []) ≤ k
    longer n h ih zero g = absurd (omega arith)
    longer n h ih (suc k) g = rw length-append (omega (arith, ih k (omega (arith, pow-suc 128 k))))

pub groups-few : (k n : ℕ) → n < 128 ^ suc k → length (groups n) ≤ suc k
groups-few k n h = rw (groups-longer n) (omega (arith, leading-few (n / 128) k (omega (arith, pow-suc 128 k))))

pow-some : (k : ℕ) → 1 ≤ 128 ^ k
pow-some zero = omega arith
pow-some (suc k) = omega (arith, pow-some k, pow-suc 128 k)

leading-many : (n k : ℕ) → 128 ^ k ≤ n → suc k ≤ length (leading n)
leading-many =
    by_groups (λ n s. (k : ℕ) → 128 ^ k ≤ n → suc k ≤ length s) (λ k h. absurd (omega (arith, pow-some k))) longer
  where
    longer : (n : ℕ) → 0 < n → ((k : ℕ) → 128 ^ k ≤ n / 128 → suc k ≤ length (leading (n / 128)))
        → (k : ℕ) → 128 ^ k ≤ n → suc k ≤ length (leading (n / 128) ++ (128 + n % 128) ∷ [])
    longer n h ih zero g = rw length-append (omega arith)
    longer n h ih (suc k) g = rw length-append (omega (arith, ih k (omega (arith, pow-suc 128 k))))

pub groups-many : (k n : ℕ) → 128 ^ k ≤ n → suc k ≤ length (groups n)
groups-many zero n h = rw (groups-longer n) (omega arith)
groups-many (suc k) n h = rw (groups-longer n) (omega (arith, leading-many (n / 128) k (omega (arith, pow-suc 128 k))))

-- five groups serve 32 bits
pub groups_five : (n : ℕ) → n < 4294967296 → length (groups n) ≤ 5
groups_five n h = groups-few 4 n (omega arith)

pub groups-some : (n : ℕ) → 1 ≤ length (groups n)
groups-some n = omega (arith, groups-longer n)

-- ---- numbers one behind the other

pub spelled_none : spelled [] ≡ []
unfolding spelled
spelled_none = refl

pub spelled-append : (a b : List ℕ) → spelled (a ++ b) ≡ spelled a ++ spelled b
unfolding spelled
spelled-append [] b = refl
spelled-append (n ∷ a) b = ap (λ rest. groups n ++ rest) (spelled-append a b) ∙ sym (append_assoc (groups n) (spelled a) (spelled b))

pub spelled-next : (l : List ℕ) (i : ℕ) → i < length l → spelled (take (suc i) l) ≡ spelled (take i l) ++ groups (get_or l i 0)
unfolding spelled
spelled-next l i h =
    ap spelled (take-suc l i 0 h)
    ∙ spelled-append (take i l) (get_or l i 0 ∷ [])
    ∙ ap (λ rest. spelled (take i l) ++ rest) (append-nil (groups (get_or l i 0)))

pub spelled-within :
    (l : List ℕ) (i : ℕ) → i < length l → length (spelled (take i l)) + length (groups (get_or l i 0)) ≤ length (spelled l)
spelled-within l i h =
    let parts : spelled l ≡ spelled (take (suc i) l) ++ spelled (drop (suc i) l) =
    ap spelled (sym (take-append-drop (suc i) l)) ∙ spelled-append (take (suc i) l) (drop (suc i) l) in
    rw (parts, spelled-next l i h) (simp length-append (omega arith))

-- numbers below 128 are their own groups
pub spelled-small : (l : List ℕ) → ((i : ℕ) → i < length l → get_or l i 0 < 128) → spelled l ≡ l
unfolding spelled
spelled-small [] small = refl
spelled-small (n ∷ l) small =
    rw (groups-small n (small 0 (omega arith)), spelled-small l (λ i h. small (suc i) (omega arith)))
