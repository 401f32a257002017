-- Laws of numbers as they stand in bytes: one byte at a time; that the place behind a number is inside; what a width, a height and a
-- length tell that were taken. Assumes nothing.
use Prim.Native.Nat.{ℕ, zero, suc, ◌+◌, ◌*◌, ◌%◌, ◌^◌, ◌≤◌, ◌<◌}
use native.Mathlib.Omega.{arith}
use native.Mathlib.Nat.{pow-suc}
use mathlib.Core.Path.{◌≡◌, refl, sym, ap, ◌∙◌}
use mathlib.Core.Bool.{Bool, true, false, cond}
use mathlib.Core.List.{List}
use lib.Dec.{ltb, leb, eqb}
use lib.ListN.{length, get_or}
use borrow.Author.Tests.{lt-ltb, le-ltb, le-leb, lt-leb, ltb-true, ltb-false, leb-false, ne_eqb}
use Rattle.std.specs.Prelude.{Ok, Err}
use Rattle.board.specs.Shape.{Side, bad_side}
use Rattle.board.proofs.Laws.{passing_side}
use Rattle.records.specs.declared.ReadRefusal.{ReadRefusal}
use Rattle.records.specs.declared.ReadRefusal.TheVariants.{CutShort, BadNumber, BadSide, LongList}
use Rattle.records.specs.Scan.{Found, found, ended, groups_at, number_at, behind, but, TestedBy, side_at, length_at, prepend, numbers_at}

-- what is found is one value and one place
pub found_one : {A : Type 0} {v w : A} {next to : ℕ} → found v next ≡ found w to → (v ≡ w) × (next ≡ to)
found_one {A} {v} {w} {next} {to} e =
    let pair : ◌≡◌ {A = A × ℕ} (v, next) (w, to) = cc in
    (ap (λ (p : A × ℕ). p.0) pair, ap (λ (p : A × ℕ). p.1) pair)

-- ---- one byte at a time

module _ (bytes : List ℕ) (first v at : ℕ) where
  -- what the groups are worth with the byte at the place
  abbrev pub worth_next : ℕ
  worth_next = v * 128 + get_or bytes at 0 % 128

  pub groups-out : Err (BadNumber first) ≡ groups_at zero bytes first v at
  unfolding groups_at
  groups-out = refl

  module _ (k : ℕ) where
    pub groups_cut : length bytes ≤ at → groups_at (suc k) bytes first v at ≡ Err (CutShort (length bytes))
    unfolding groups_at
    groups_cut h = rw (le-leb (length bytes) at h)

    pub groups-last : at < length bytes → get_or bytes at 0 < 128
        → groups_at (suc k) bytes first v at ≡ ended first worth_next (at + 1)
    unfolding groups_at
    groups-last h small = rw (lt-leb (length bytes) at h, lt-ltb (get_or bytes at 0) 128 small)

    pub groups-more : at < length bytes → 128 ≤ get_or bytes at 0
        → groups_at (suc k) bytes first v at ≡ groups_at k bytes first worth_next (at + 1)
    unfolding groups_at
    groups-more h large = rw (lt-leb (length bytes) at h, le-ltb (get_or bytes at 0) 128 large)

-- k groups are worth less than 128 ^ k
pub worth-next : (v k r : ℕ) → v < 128 ^ k → r < 128 → v * 128 + r < 128 ^ suc k
worth-next v k r small group = omega (arith, pow-suc 128 k)

pub worth-fits : (v k : ℕ) → v < 128 ^ k → k < 5 → v < 268435456
worth-fits v zero h few = omega arith
worth-fits v (suc zero) h few = omega arith
worth-fits v (suc (suc zero)) h few = omega arith
worth-fits v (suc (suc (suc zero))) h few = omega arith
worth-fits v (suc (suc (suc (suc zero)))) h few = omega arith
worth-fits v (suc (suc (suc (suc (suc k))))) h few = absurd (omega arith)

-- ---- the end of a number

pub ended-whole : (first v next : ℕ) → v < 4294967296 → ended first v next ≡ found v next
unfolding ended
ended-whole first v next small = rw (lt-ltb v 4294967296 small)

pub ended_over : (first v next : ℕ) → 4294967296 ≤ v → ended first v next ≡ Err (BadNumber first)
unfolding ended
ended_over first v next large = rw (le-ltb v 4294967296 large)

pub ended_means : (first v next w to : ℕ) → ended first v next ≡ found w to → (w ≡ v) × (to ≡ next) × (v < 4294967296)
unfolding ended
ended_means first v next w to e = go (ltb v 4294967296) refl e
  where
    go : (t : Bool) → ltb v 4294967296 ≡ t → cond t (found v next) (Err (BadNumber first)) ≡ found w to
        → (w ≡ v) × (to ≡ next) × (v < 4294967296)
    go true h f = let one = found_one f in (sym one.0, sym one.1, ltb-true v 4294967296 h)
    go false h f = cc

-- ---- the place behind

groups-inside : (k : ℕ) (bytes : List ℕ) (first v at w next : ℕ) → groups_at k bytes first v at ≡ found w next → next ≤ length bytes
unfolding groups_at
groups-inside zero bytes first v at w next e = cc
groups-inside (suc k) bytes first v at w next e =
    go (leb (length bytes) at) refl (ltb (get_or bytes at 0) 128) e
    (groups-inside k bytes first (worth_next bytes first v at) (at + 1) w next)
  where
    go : (t : Bool) → leb (length bytes) at ≡ t → (u : Bool)
        → cond t (Err (CutShort (length bytes)))
        (cond u (ended first (worth_next bytes first v at) (at + 1)) (groups_at k bytes first (worth_next bytes first v at) (at + 1)))
        ≡ found w next
        → (groups_at k bytes first (worth_next bytes first v at) (at + 1) ≡ found w next → next ≤ length bytes)
        → next ≤ length bytes
    go true h u f ih = cc
    go false h true f ih =
        omega (arith, (ended_means first (worth_next bytes first v at) (at + 1) w next f).1, leb-false (length bytes) at h)
    go false h false f ih = ih f

pub number-inside : (bytes : List ℕ) (at w next : ℕ) → number_at bytes at ≡ found w next → next ≤ length bytes
unfolding number_at
number-inside bytes at w next e = go (eqb (get_or bytes at 0) 128) e
  where
    go : (t : Bool) → cond t (Err (BadNumber at)) (groups_at 5 bytes at 0 at) ≡ found w next → next ≤ length bytes
    go true f = cc
    go false f = groups-inside 5 bytes at 0 at w next f

-- a number whose first byte is not 128 is what its groups are
pub number_by : (bytes : List ℕ) (at : ℕ) (r : Found ℕ) → (get_or bytes at 0 ≡ 128 → ⊥) → r ≡ groups_at 5 bytes at 0 at
    → r ≡ number_at bytes at
unfolding number_at
number_by bytes at r other e = rw (ne_eqb (get_or bytes at 0) 128 other) e

-- ---- a width, a height, a length

-- a number that was taken is one of which the test does not hold
but_means : (bad : ℕ → Bool) (why : ReadRefusal) (v next : ℕ) (s : Found ℕ) → but bad why s ≡ found v next
    → (s ≡ found v next) × (bad v ≡ false)
but_means bad why v next (Err other) e = cc
but_means bad why v next (Ok (w, to)) e = go (bad w) refl e
  where
    go : (t : Bool) → bad w ≡ t → cond t (Err why) (found w to) ≡ found v next → (found w to ≡ found v next) × (bad v ≡ false)
    go true h f = cc
    go false h f = let same = (found_one f).0 in (f, rw same at h)

-- what a closure said of it, in the words of the definition
pub but_by : (bad : ℕ → Bool) (why : ReadRefusal) (Says : ℕ → Bool → Type 0) → ((v : ℕ) (t : Bool) → Says v t → t ≡ bad v)
    → (s r : Found ℕ) → TestedBy Says why s r → r ≡ but bad why s
but_by bad why Says means (Err other) r told = told
but_by bad why Says means (Ok (v, next)) r told =
    told.2 ∙ ap (λ (t : Bool). cond t (Err why) (found v next)) (means v told.0 told.1)

module _ (bytes : List ℕ) (at v next : ℕ) where
  -- a side that was taken is a number at that place, from 2 to 4
  pub side_means : side_at bytes at ≡ found v next → (number_at bytes at ≡ found v next) × Side v
  unfolding side_at
  side_means e =
      let taken = but_means bad_side (BadSide at) v next (number_at bytes at) e in
      (taken.0, passing_side v taken.1)

  pub length_means : length_at bytes at ≡ found v next → (number_at bytes at ≡ found v next) × (v ≤ 120)
  unfolding length_at
  length_means e =
      let taken = but_means (ltb 120) (LongList at) v next (number_at bytes at) e in
      (taken.0, ltb-false 120 v taken.1)

-- ---- several numbers

module _ (k : ℕ) (bytes : List ℕ) (at : ℕ) where
  pub numbers-next : (v next : ℕ) → number_at bytes at ≡ found v next → numbers_at (suc k) bytes at ≡ prepend v (numbers_at k bytes next)
  unfolding numbers_at
  numbers-next v next e = rw e

  pub numbers_stop : (why : ReadRefusal) → number_at bytes at ≡ Err why → numbers_at (suc k) bytes at ≡ Err why
  unfolding numbers_at
  numbers_stop why e = rw e

pub numbers-count : (k : ℕ) (bytes : List ℕ) (at : ℕ) (vs : List ℕ) (next : ℕ) → numbers_at k bytes at ≡ found vs next → length vs ≡ k
unfolding numbers_at
numbers-count zero bytes at vs next e = sym (ap length (found_one e).0)
numbers-count (suc k) bytes at vs next e = first (number_at bytes at) e (numbers-count k bytes)
  where
    second : (v : ℕ) (s : Found (List ℕ)) → prepend v s ≡ found vs next
        → ((ws : List ℕ) (to : ℕ) → s ≡ found ws to → length ws ≡ k) → length vs ≡ suc k
    second v (Err why) f ih = cc
    second v (Ok (ws, to)) f ih = sym (ap length (found_one f).0) ∙ ap suc (ih ws to refl)

    first : (s : Found ℕ) → behind s (λ v to. prepend v (numbers_at k bytes to)) ≡ found vs next
        → ((at : ℕ) (ws : List ℕ) (to : ℕ) → numbers_at k bytes at ≡ found ws to → length ws ≡ k) → length vs ≡ suc k
    first (Err why) f ih = cc
    first (Ok (v, to)) f ih = second v (numbers_at k bytes to) f (ih to)
