-- Numbers that stand in bytes are found, and what is found stands there: one number, several, and the numbers of a whole record. The
-- bytes from a place on are what the numbers spell, and then the bytes behind them. Assumes nothing.
use Prim.Native.Nat.{ℕ, zero, suc, ◌+◌, ◌*◌, ◌%◌, ◌≤◌, ◌<◌}
use native.Mathlib.Omega.{arith}
use mathlib.Core.Path.{◌≡◌, refl, sym, ap, subst, ◌∙◌}
use mathlib.Core.Bool.{Bool, true, false, cond}
use mathlib.Core.List.{List, [], ◌∷◌, ◌++◌, append_assoc, append-nil}
use lib.Dec.{ltb, leb, eqb}
use lib.ListN.{length, get_or, drop, length-append, length-drop}
use lib.Seq.{drop-cons, drop-drop, drop-append_seam, get_or-drop}
use borrow.Author.Tests.{ltb-true, ltb-false, leb-false, eqb-false}
use Rattle.std.specs.Prelude.{Ok, Err}
use Rattle.records.specs.declared.ReadRefusal.TheVariants.{CutShort, BadNumber}
use Rattle.records.specs.Groups.{groups, worth_from, Grouped, last, more, Spells, spelled}
use Rattle.records.specs.Scan.{Found, found, ended, groups_at, number_at, behind, prepend, numbers_at}
use Rattle.records.specs.Form.{Bytes}
use Rattle.records.proofs.theory.Grouping.{groups_spell, groups_only, groups_five, spelled-append}
use Rattle.records.proofs.theory.Scanning.{found_one, groups-last, groups-more, ended-whole, ended_means, number_by, numbers-next}

-- ---- bytes from a place on

module _ (bytes : List ℕ) (at b : ℕ) (t : List ℕ) (e : drop at bytes ≡ b ∷ t) where
  begins-inside : at < length bytes
  begins-inside = omega (arith, length-drop at bytes, ap length e)

  begins_with : get_or bytes at 0 ≡ b
  begins_with =
      let place : at ≡ at + 0 = omega arith in
      ap (λ (i : ℕ). get_or bytes i 0) place ∙ sym (get_or-drop at bytes 0 0) ∙ ap (λ (l : List ℕ). get_or l 0 0) e

  begins-then : drop (at + 1) bytes ≡ t
  begins-then = sym (drop-drop 1 at bytes) ∙ ap (drop 1) e

pub drop-behind : (bytes : List ℕ) (at : ℕ) (s t : List ℕ) → drop at bytes ≡ s ++ t → drop (at + length s) bytes ≡ t
drop-behind bytes at s t e = sym (drop-drop (length s) at bytes) ∙ ap (drop (length s)) e ∙ drop-append_seam s t

-- ---- a number that stands there is found

grouped-first : {s : List ℕ} → Grouped s → (bytes rest : List ℕ) (at : ℕ) → drop at bytes ≡ s ++ rest → get_or bytes at 0 ≡ get_or s 0 0
grouped-first (last {b} small) bytes rest at e = begins_with bytes at b rest e
grouped-first (more {b} {s} low high form) bytes rest at e = begins_with bytes at b (s ++ rest) e

grouped-read : {s : List ℕ} → Grouped s → (k v first at : ℕ) (bytes rest : List ℕ) → length s ≤ k → drop at bytes ≡ s ++ rest
    → groups_at k bytes first v at ≡ ended first (worth_from v s) (at + length s)
grouped-read (last {b} small) zero v first at bytes rest few e = absurd (omega arith)
grouped-read (last {b} small) (suc k) v first at bytes rest few e =
    let is = begins_with bytes at b rest e in
    groups-last bytes first v at k (begins-inside bytes at b rest e) (omega (arith, is))
    ∙ ap (λ (c : ℕ). ended first (v * 128 + c % 128) (at + 1)) is
grouped-read (more {b} {s} low high form) zero v first at bytes rest few e = absurd (omega arith)
grouped-read (more {b} {s} low high form) (suc k) v first at bytes rest few e =
    let is = begins_with bytes at b (s ++ rest) e in
    let place : at + 1 + length s ≡ at + suc (length s) = omega arith in
    groups-more bytes first v at k (begins-inside bytes at b (s ++ rest) e) (omega (arith, is))
    ∙ ap (λ (c : ℕ). groups_at k bytes first (v * 128 + c % 128) (at + 1)) is
    ∙ grouped-read form k (v * 128 + b % 128) first (at + 1) bytes rest (omega arith) (begins-then bytes at b (s ++ rest) e)
    ∙ ap (λ (n : ℕ). ended first (worth_from (v * 128 + b % 128) s) n) place

pub number_read : (bytes rest : List ℕ) (at v : ℕ) → v < 4294967296 → drop at bytes ≡ groups v ++ rest
    → number_at bytes at ≡ found v (at + length (groups v))
number_read bytes rest at v small e =
    let spells = groups_spell v in
    let other : get_or bytes at 0 ≡ 128 → ⊥ = λ f. spells.shortest (sym (grouped-first spells.grouped bytes rest at e) ∙ f) in
    sym (number_by bytes at (groups_at 5 bytes at 0 at) other refl)
    ∙ grouped-read spells.grouped 5 0 at at bytes rest (groups_five v small) e
    ∙ ap (λ (w : ℕ). ended at w (at + length (groups v))) spells.worth
    ∙ ended-whole at v (at + length (groups v)) small

-- ---- a number that is found stands there

-- groups stand there that make w of v
record Stood (bytes : List ℕ) (at v w next : ℕ) : Type 0 where
  text : List ℕ
  form : Grouped text
  begins : drop at bytes ≡ text ++ drop next bytes
  value : worth_from v text ≡ w
  small : w < 4294967296

groups_stood : (k : ℕ) (bytes : List ℕ) → Bytes bytes → (first v at w next : ℕ) → groups_at k bytes first v at ≡ found w next
    → Stood bytes at v w next
unfolding groups_at
groups_stood zero bytes each first v at w next e = cc
groups_stood (suc k) bytes each first v at w next e =
    go (leb (length bytes) at) refl (ltb b 128) refl e (groups_stood k bytes each first (v * 128 + b % 128) (at + 1) w next)
  where
    b : ℕ
    b = get_or bytes at 0

    go : (t : Bool) → leb (length bytes) at ≡ t → (u : Bool) → ltb b 128 ≡ u
        → cond t (Err (CutShort (length bytes)))
        (cond u (ended first (v * 128 + b % 128) (at + 1)) (groups_at k bytes first (v * 128 + b % 128) (at + 1)))
        ≡ found w next
        → (groups_at k bytes first (v * 128 + b % 128) (at + 1) ≡ found w next → Stood bytes (at + 1) (v * 128 + b % 128) w next)
        → Stood bytes at v w next
    go true h u l f ih = cc
    go false h true l f ih =
        let end = ended_means first (v * 128 + b % 128) (at + 1) w next f in
        let place : suc at ≡ next = omega (arith, end.1) in
        record {
          text = b ∷ [];
          form = last (ltb-true b 128 l);
          begins = drop-cons bytes at 0 (leb-false (length bytes) at h) ∙ ap (λ (n : ℕ). b ∷ drop n bytes) place;
          value = sym end.0;
          small = omega (arith, end.0, end.2);
        }
    go false h false l f ih =
        let rest = ih f in
        let inside = leb-false (length bytes) at h in
        let place : suc at ≡ at + 1 = omega arith in
        record {
          text = b ∷ rest.text;
          form = more (ltb-false b 128 l) (each at inside) rest.form;
          begins =
              drop-cons bytes at 0 inside
              ∙ ap (λ (n : ℕ). b ∷ drop n bytes) place
              ∙ ap (λ (l : List ℕ). b ∷ l) rest.begins;
          value = rest.value;
          small = rest.small;
        }

-- numbers of 32 bits
pub data Fits : List ℕ → Type 0 where
  none : Fits []
  one : {v : ℕ} {vs : List ℕ} → v < 4294967296 → Fits vs → Fits (v ∷ vs)

pub fits_both : {vs ws : List ℕ} → Fits vs → Fits ws → Fits (vs ++ ws)
fits_both none others = others
fits_both (one small rest) others = one small (fits_both rest others)

-- these numbers stand from a place on, before another
pub record Stand (bytes : List ℕ) (at : ℕ) (vs : List ℕ) (next : ℕ) : Type 0 where
  pub begins : drop at bytes ≡ spelled vs ++ drop next bytes
  pub fits : Fits vs

pub stand-none : (bytes : List ℕ) (at : ℕ) → Stand bytes at [] at
unfolding spelled
stand-none bytes at = record { begins = refl; fits = none }

pub stand-then : {bytes vs ws : List ℕ} {at mid next : ℕ} → Stand bytes at vs mid → Stand bytes mid ws next → Stand bytes at (vs ++ ws) next
stand-then {bytes} {vs} {ws} {at} {mid} {next} a b =
    record {
      begins =
          a.begins
          ∙ ap (λ (l : List ℕ). spelled vs ++ l) b.begins
          ∙ sym (append_assoc (spelled vs) (spelled ws) (drop next bytes))
          ∙ ap (λ (l : List ℕ). l ++ drop next bytes) (sym (spelled-append vs ws));
      fits = fits_both a.fits b.fits;
    }

pub number-stands : (bytes : List ℕ) → Bytes bytes → (at w next : ℕ) → number_at bytes at ≡ found w next → Stand bytes at (w ∷ []) next
unfolding number_at spelled
number-stands bytes each at w next e = go (eqb (get_or bytes at 0) 128) refl e
  where
    go : (t : Bool) → eqb (get_or bytes at 0) 128 ≡ t → cond t (Err (BadNumber at)) (groups_at 5 bytes at 0 at) ≡ found w next
        → Stand bytes at (w ∷ []) next
    go true h f = cc
    go false h f =
        let stood = groups_stood 5 bytes each at 0 at w next f in
        let spells : Spells stood.text w =
        record {
          grouped = stood.form;
          shortest = λ g. eqb-false (get_or bytes at 0) 128 h (grouped-first stood.form bytes (drop next bytes) at stood.begins ∙ g);
          worth = stood.value;
        } in
        record {
          begins =
              stood.begins
              ∙ ap (λ (s : List ℕ). s ++ drop next bytes) (groups_only spells ∙ sym (append-nil (groups w)));
          fits = one stood.small none;
        }

-- ---- several

pub numbers-stand : (k : ℕ) (bytes : List ℕ) → Bytes bytes → (at : ℕ) (vs : List ℕ) (next : ℕ) → numbers_at k bytes at ≡ found vs next
    → Stand bytes at vs next
unfolding numbers_at
numbers-stand zero bytes each at vs next e =
    let one' = found_one e in
    subst (λ (l : List ℕ). Stand bytes at l next) one'.0 (subst (λ (n : ℕ). Stand bytes at [] n) one'.1 (stand-none bytes at))
numbers-stand (suc k) bytes each at vs next e = first (number_at bytes at) refl e (numbers-stand k bytes each)
  where
    second : (v to : ℕ) → Stand bytes at (v ∷ []) to → (s : Found (List ℕ)) → numbers_at k bytes to ≡ s → prepend v s ≡ found vs next
        → ((ws : List ℕ) (n : ℕ) → numbers_at k bytes to ≡ found ws n → Stand bytes to ws n) → Stand bytes at vs next
    second v to one' (Err why) is f ih = cc
    second v to one' (Ok (ws, n)) is f ih =
        let both = found_one f in
        subst (λ (l : List ℕ). Stand bytes at l next) both.0
        (subst (λ (m : ℕ). Stand bytes at (v ∷ ws) m) both.1 (stand-then one' (ih ws n is)))

    first : (s : Found ℕ) → number_at bytes at ≡ s → behind s (λ v to. prepend v (numbers_at k bytes to)) ≡ found vs next
        → ((a : ℕ) (ws : List ℕ) (n : ℕ) → numbers_at k bytes a ≡ found ws n → Stand bytes a ws n) → Stand bytes at vs next
    first (Err why) is f ih = cc
    first (Ok (v, to)) is f ih = second v to (number-stands bytes each at v to is) (numbers_at k bytes to) refl f (ih to)

pub numbers-read : {vs : List ℕ} → Fits vs → (bytes rest : List ℕ) (at : ℕ) → drop at bytes ≡ spelled vs ++ rest
    → numbers_at (length vs) bytes at ≡ found vs (at + length (spelled vs))
unfolding numbers_at spelled
numbers-read none bytes rest at e = let place : at ≡ at + 0 = omega arith in ap (found []) place
numbers-read (one {v} {vs} small fits) bytes rest at e =
    let whole = e ∙ append_assoc (groups v) (spelled vs) rest in
    let behind' = drop-behind bytes at (groups v) (spelled vs ++ rest) whole in
    let place : at + length (groups v) + length (spelled vs) ≡ at + length (groups v ++ spelled vs) =
    omega (arith, length-append (groups v) (spelled vs)) in
    numbers-next (length vs) bytes at v (at + length (groups v)) (number_read bytes (spelled vs ++ rest) at v small whole)
    ∙ ap (prepend v) (numbers-read fits bytes rest (at + length (groups v)) behind')
    ∙ ap (found (v ∷ vs)) place
