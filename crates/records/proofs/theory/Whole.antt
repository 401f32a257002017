-- A whole record and its reader: the numbers are found where they stand, and stand where they are found; the mark; then what the reader
-- accepts is the record of its fields, and it accepts the record of every plan that passes E1's tests. Assumes nothing.
use Prim.Native.Nat.{ℕ, ◌+◌, ◌*◌, ◌/◌, ◌%◌, ◌≤◌, ◌<◌}
use native.Mathlib.Omega.{arith}
use mathlib.Core.Path.{◌≡◌, refl, sym, ap, subst, ◌∙◌}
use mathlib.Core.Bool.{Bool, true, false, ◌&&◌, true≢false}
use mathlib.Core.List.{List, [], ◌∷◌, ◌++◌, append_assoc, append-nil}
use lib.Dec.{eqb}
use lib.ListN.{length, get_or, drop, length-append, length-drop}
use lib.Seq.{get_or-append-add, get_or-drop}
use borrow.Author.Tests.{le-ltb, eq-eqb, eqb-true}
use Rattle.std.specs.Prelude.{Ok, Err}
use Rattle.board.proofs.Laws.{side_passes}
use Rattle.records.specs.declared.Numbers.{Numbers}
use Rattle.records.specs.Groups.{groups, spelled}
use Rattle.records.specs.Mark.{mark_bytes}
use Rattle.records.specs.Form.{Bytes}
use Rattle.records.specs.Scan.{Found, found, side_at, length_at, numbers_at, behind}
use Rattle.records.specs.Read.{Begun, begun, numbers_of, length_on, plan_on, cells_on, height_on, numbers_in, mark_stands}
use Rattle.records.specs.Read.{CellsRead, NumbersRead}
use Rattle.records.proofs.theory.Grouping.{spelled-append}
use Rattle.records.proofs.theory.Scanning.{number-inside, side_means, length_means, numbers-count}
use Rattle.records.proofs.theory.Standing.{Fits, none as no-numbers, one, Stand, stand-then, number-stands, numbers-stand}
use Rattle.records.proofs.theory.Standing.{number_read, numbers-read, drop-behind}

-- the numbers of a record, in their order
abbrev pub plan_of : Numbers → List ℕ
plan_of n = n.ceiling ∷ n.p ∷ n.q ∷ n.visits ∷ []

abbrev pub listed : Numbers → List ℕ → List ℕ
listed n cells = n.width ∷ n.height ∷ cells ++ (plan_of n ++ n.length ∷ [])

-- ---- what is found stands there

record Reached {A : Type 0} (s : Found A) (P : A → ℕ → Type 0) : Type 0 where
  value : A
  next : ℕ
  is : s ≡ found value next
  goes : P value next

module _ {A : Type 0} (n : Numbers) (cells : List ℕ) (at : ℕ) where
  reached : (s : Found A) (go : A → ℕ → Begun) → behind s go ≡ begun n cells at → Reached s (λ v next. go v next ≡ begun n cells at)
  reached (Err why) go e = cc
  reached (Ok (v, next)) go e = record { value = v; next = next; is = refl; goes = e }

four-of : (l : List ℕ) → length l ≡ 4 → l ≡ get_or l 0 0 ∷ get_or l 1 0 ∷ get_or l 2 0 ∷ get_or l 3 0 ∷ []
four-of [] e = absurd (omega arith)
four-of (a ∷ []) e = absurd (omega arith)
four-of (a ∷ b ∷ []) e = absurd (omega arith)
four-of (a ∷ b ∷ c ∷ []) e = absurd (omega arith)
four-of (a ∷ b ∷ c ∷ d ∷ []) e = refl
four-of (a ∷ b ∷ c ∷ d ∷ f ∷ l) e = absurd (omega arith)

pub record Opened (bytes : List ℕ) (n : Numbers) (cells : List ℕ) (at : ℕ) : Type 0 where
  pub stand : Bytes bytes → Stand bytes 0 (listed n cells) at
  pub read : NumbersRead bytes n cells at

module _ (bytes : List ℕ) where
  length_opened : (width height : ℕ) (cells plan : List ℕ) (before : List ℕ) (at : ℕ) (n : Numbers) (cs : List ℕ) (to : ℕ)
      → (Bytes bytes → Stand bytes 0 before at) → length plan ≡ 4 → CellsRead width height cells → before ≡ width ∷ height ∷ cells ++ plan
      → length_on bytes width height cells plan at ≡ begun n cs to → Opened bytes n cs to
  unfolding length_on
  length_opened width height cells plan before at n cs to stand four read is e =
      let f = reached n cs to (length_at bytes at) (λ moves next. begun (numbers_of width height plan moves) cells next) e in
      let means = length_means bytes at f.value f.next f.is in
      let all = λ (each : Bytes bytes).
      stand-then (subst (λ (l : List ℕ). Stand bytes 0 l at) is (stand each)) (number-stands bytes each at f.value f.next means.0) in
      let order : (width ∷ height ∷ cells ++ plan) ++ f.value ∷ [] ≡ listed (numbers_of width height plan f.value) cells =
      ap (λ (l : List ℕ). width ∷ height ∷ l)
      (append_assoc cells plan (f.value ∷ []) ∙ ap (λ (l : List ℕ). cells ++ (l ++ f.value ∷ [])) (four-of plan four)) in
      let opened : Opened bytes (numbers_of width height plan f.value) cells f.next =
      record {
        stand = λ each. subst (λ (l : List ℕ). Stand bytes 0 l f.next) order (all each);
        read = record { board = read; few = means.1; inside = number-inside bytes at f.value f.next means.0 };
      } in
      same (numbers_of width height plan f.value) n cells cs f.next to f.goes opened
    where
      same : (n n' : Numbers) (c c' : List ℕ) (a a' : ℕ) → begun n c a ≡ begun n' c' a' → Opened bytes n c a → Opened bytes n' c' a'
      same n n' c c' a a' e opened =
          let all : ◌≡◌ {A = Numbers × List ℕ × ℕ} (n, c, a) (n', c', a') = cc in
          subst (λ (t : Numbers × List ℕ × ℕ). Opened bytes t.0 t.1 t.2) all opened

  plan_opened : (width height : ℕ) (cells : List ℕ) (at : ℕ) (n : Numbers) (cs : List ℕ) (to : ℕ)
      → (Bytes bytes → Stand bytes 0 (width ∷ height ∷ cells) at) → CellsRead width height cells
      → plan_on bytes width height cells at ≡ begun n cs to → Opened bytes n cs to
  unfolding plan_on
  plan_opened width height cells at n cs to stand read e =
      let f = reached n cs to (numbers_at 4 bytes at) (λ plan next. length_on bytes width height cells plan next) e in
      length_opened width height cells f.value (width ∷ height ∷ cells ++ f.value) f.next n cs to
      (λ each. stand-then (stand each) (numbers-stand 4 bytes each at f.value f.next f.is))
      (numbers-count 4 bytes at f.value f.next f.is) read refl f.goes

  cells_opened : (width height at : ℕ) (n : Numbers) (cs : List ℕ) (to : ℕ)
      → (Bytes bytes → Stand bytes 0 (width ∷ height ∷ []) at) → ((l : List ℕ) → length l ≡ width * height → CellsRead width height l)
      → cells_on bytes width height at ≡ begun n cs to → Opened bytes n cs to
  unfolding cells_on
  cells_opened width height at n cs to stand read e =
      let f = reached n cs to (numbers_at (width * height) bytes at) (λ cells next. plan_on bytes width height cells next) e in
      plan_opened width height f.value f.next n cs to
      (λ each. stand-then (stand each) (numbers-stand (width * height) bytes each at f.value f.next f.is))
      (read f.value (numbers-count (width * height) bytes at f.value f.next f.is)) f.goes

  pub numbers_opened : (n : Numbers) (cs : List ℕ) (to : ℕ) → numbers_in bytes ≡ begun n cs to → Opened bytes n cs to
  unfolding numbers_in height_on
  numbers_opened n cs to e =
      let w = reached n cs to (side_at bytes 0) (λ width next. height_on bytes width next) e in
      let h = reached n cs to (side_at bytes w.next) (λ height next. cells_on bytes w.value height next) w.goes in
      let wide = side_means bytes 0 w.value w.next w.is in
      let high = side_means bytes w.next h.value h.next h.is in
      cells_opened w.value h.value h.next n cs to
      (λ each. stand-then (number-stands bytes each 0 w.value w.next wide.0) (number-stands bytes each w.next h.value h.next high.0))
      (λ l long. record { wide = wide.1; high = high.1; long = long }) h.goes

-- the place behind the numbers is as far as they are long
pub opened_place : {bytes : List ℕ} {n : Numbers} {cells : List ℕ} {at : ℕ}
    → Stand bytes 0 (listed n cells) at → NumbersRead bytes n cells at → at ≡ length (spelled (listed n cells))
opened_place {bytes} {n} {cells} {at} stand read =
    omega (
      arith,
      ap length stand.begins,
      length-append (spelled (listed n cells)) (drop at bytes),
      length-drop at bytes,
      read.inside,
    )

-- ---- what stands there is found

module _ (bytes : List ℕ) (n : Numbers) (cells rest : List ℕ) (whole : bytes ≡ spelled (listed n cells) ++ rest)
    (read : CellsRead n.width n.height cells) (few : n.length ≤ 120) (fits : Fits (listed n cells)) where
  abbrev tail : List ℕ
  tail = cells ++ (plan_of n ++ n.length ∷ [])

  parts : Fits (n.width ∷ n.height ∷ tail) → (n.width < 4294967296) × (n.height < 4294967296) × Fits tail
  parts (one small (one small' others)) = (small, small', others)

  fits-split : (vs ws : List ℕ) → Fits (vs ++ ws) → Fits vs × Fits ws
  fits-split [] ws all = (no-numbers, all)
  fits-split (v ∷ vs) ws (one small others) = let both = fits-split vs ws others in (one small both.0, both.1)

  last_fits : Fits (n.length ∷ []) → n.length < 4294967296
  last_fits (one small others) = small

  abbrev at-height : ℕ
  at-height = 0 + length (groups n.width)

  abbrev at_cells : ℕ
  at_cells = at-height + length (groups n.height)

  abbrev at-plan : ℕ
  at-plan = at_cells + length (spelled cells)

  abbrev at_length : ℕ
  at_length = at-plan + length (spelled (plan_of n))

  abbrev pub at-moves : ℕ
  at-moves = at_length + length (groups n.length)

  from-width : drop 0 bytes ≡ groups n.width ++ (spelled (n.height ∷ tail) ++ rest)
  unfolding spelled
  from-width = whole ∙ append_assoc (groups n.width) (spelled (n.height ∷ tail)) rest

  from-height : drop at-height bytes ≡ groups n.height ++ (spelled tail ++ rest)
  unfolding spelled
  from-height =
      drop-behind bytes 0 (groups n.width) (spelled (n.height ∷ tail) ++ rest) from-width
      ∙ append_assoc (groups n.height) (spelled tail) rest

  from-cells : drop at_cells bytes ≡ spelled cells ++ (spelled (plan_of n ++ n.length ∷ []) ++ rest)
  from-cells =
      drop-behind bytes at-height (groups n.height) (spelled tail ++ rest) from-height
      ∙ ap (λ (l : List ℕ). l ++ rest) (spelled-append cells (plan_of n ++ n.length ∷ []))
      ∙ append_assoc (spelled cells) (spelled (plan_of n ++ n.length ∷ [])) rest

  from-plan : drop at-plan bytes ≡ spelled (plan_of n) ++ (spelled (n.length ∷ []) ++ rest)
  from-plan =
      drop-behind bytes at_cells (spelled cells) (spelled (plan_of n ++ n.length ∷ []) ++ rest) from-cells
      ∙ ap (λ (l : List ℕ). l ++ rest) (spelled-append (plan_of n) (n.length ∷ []))
      ∙ append_assoc (spelled (plan_of n)) (spelled (n.length ∷ [])) rest

  from-length : drop at_length bytes ≡ groups n.length ++ rest
  unfolding spelled
  from-length =
      drop-behind bytes at-plan (spelled (plan_of n)) (spelled (n.length ∷ []) ++ rest) from-plan
      ∙ ap (λ (l : List ℕ). l ++ rest) (append-nil (groups n.length))

  pub from-moves : drop at-moves bytes ≡ rest
  from-moves = drop-behind bytes at_length (groups n.length) rest from-length

  pub numbers-found : numbers_in bytes ≡ begun n cells at-moves
  unfolding numbers_in height_on cells_on plan_on length_on side_at length_at
  numbers-found =
      let each = parts fits in
      let behind-cells = fits-split cells (plan_of n ++ n.length ∷ []) each.2 in
      let behind-plan = fits-split (plan_of n) (n.length ∷ []) behind-cells.1 in
      let width = number_read bytes (spelled (n.height ∷ tail) ++ rest) 0 n.width each.0 from-width in
      let height = number_read bytes (spelled tail ++ rest) at-height n.height each.1 from-height in
      let cells_at = numbers-read behind-cells.0 bytes (spelled (plan_of n ++ n.length ∷ []) ++ rest) at_cells from-cells in
      let counted = ap (λ (k : ℕ). numbers_at k bytes at_cells) (sym read.long) ∙ cells_at in
      let plan-at = numbers-read behind-plan.0 bytes (spelled (n.length ∷ []) ++ rest) at-plan from-plan in
      let length-is = number_read bytes rest at_length n.length (last_fits behind-plan.1) from-length in
      rw (width, side_passes read.wide, height, side_passes read.high, counted, plan-at, length-is, le-ltb 120 n.length few)

-- ---- the mark

pub marks_there : (b : List ℕ) (m : ℕ) → mark_stands m (b ++ mark_bytes m) (length b) ≡ true
unfolding mark_stands
marks_there b m =
    let zero' : length b ≡ length b + 0 = omega arith in
    let at : (i : ℕ) → get_or (b ++ mark_bytes m) (length b + i) 0 ≡ get_or (mark_bytes m) i 0 =
    λ i. get_or-append-add b (mark_bytes m) i 0 in
    rw (
      eq-eqb _ _ (ap (λ (i : ℕ). get_or (b ++ mark_bytes m) i 0) zero' ∙ at 0),
      eq-eqb _ _ (at 1),
      eq-eqb _ _ (at 2),
      eq-eqb _ _ (at 3),
    )

both_true : (t u : Bool) → t && u ≡ true → (t ≡ true) × (u ≡ true)
both_true true u e = (refl, e)
both_true false u e = absurd (true≢false (sym e))

pub four-left : (l : List ℕ) (e : ℕ) → length l ≡ e + 4
    → drop e l ≡ get_or l e 0 ∷ get_or l (e + 1) 0 ∷ get_or l (e + 2) 0 ∷ get_or l (e + 3) 0 ∷ []
four-left l e long =
    four_of' (drop e l) (omega (arith, length-drop e l)) ∙ rw (at 0, at 1, at 2, at 3, zero')
  where
    zero' : e + 0 ≡ e
    zero' = omega arith

    at : (i : ℕ) → get_or (drop e l) i 0 ≡ get_or l (e + i) 0
    at i = get_or-drop e l i 0

    four_of' : (l : List ℕ) → length l ≡ 4 → l ≡ get_or l 0 0 ∷ get_or l 1 0 ∷ get_or l 2 0 ∷ get_or l 3 0 ∷ []
    four_of' = four-of

same-four : {a b c d a' b' c' d' : ℕ} → a ≡ a' → b ≡ b' → c ≡ c' → d ≡ d' → a ∷ b ∷ c ∷ d ∷ [] ≡ a' ∷ b' ∷ c' ∷ d' ∷ []
same-four one' two three four = rw (one', two, three, four)

pub mark-stands_there : (bytes : List ℕ) (e m : ℕ) → length bytes ≡ e + 4 → mark_stands m bytes e ≡ true → drop e bytes ≡ mark_bytes m
unfolding mark_stands
mark-stands_there bytes e m long stands =
    let a = both_true (eqb (get_or bytes e 0) (m / 16777216 % 256)) _ stands in
    let b = both_true (eqb (get_or bytes (e + 1) 0) (m / 65536 % 256)) _ a.1 in
    let c = both_true (eqb (get_or bytes (e + 2) 0) (m / 256 % 256)) (eqb (get_or bytes (e + 3) 0) (m % 256)) b.1 in
    four-left bytes e long
    ∙ same-four (eqb-true (get_or bytes e 0) (m / 16777216 % 256) a.0) (eqb-true (get_or bytes (e + 1) 0) (m / 65536 % 256) b.0)
    (eqb-true (get_or bytes (e + 2) 0) (m / 256 % 256) c.0) (eqb-true (get_or bytes (e + 3) 0) (m % 256) c.1)
