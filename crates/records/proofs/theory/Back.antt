-- Reader and writer: the reader takes the record of every plan that passes E1's tests, and what it takes is the record of its fields.
-- Assumes nothing.
use Prim.Native.Nat.{ℕ, suc, ◌+◌, ◌*◌, ◌≤◌, ◌<◌}
use native.Mathlib.Omega.{arith}
use mathlib.Core.Path.{◌≡◌, refl, sym, ap, subst, ◌∙◌}
use mathlib.Core.Bool.{Bool, true, false, not}
use mathlib.Core.List.{List, [], ◌∷◌, ◌++◌, append_assoc, append-nil}
use mathlib.Core.Option.{Option, none, some}
use lib.ListN.{length, get_or, take, drop, length-append, length-drop, take-append-drop}
use lib.Seq.{take_at, take-append_seam, length-take-le, take-add}
use borrow.Author.Tests.{le-ltb, ltb-false, not-false}
use Rattle.std.specs.Prelude.{Ok, Err}
use Rattle.board.specs.Tests.{Test, first_refusal, NoneHolds, end, past, under}
use Rattle.board.specs.Faults.{fault_tests}
use Rattle.board.proofs.Laws.{none_means, none-split, cells-within, side_within}
use Rattle.planner.specs.Limits.{ceiling_of, limit_tests}
use Rattle.records.specs.declared.Numbers.{Numbers}
use Rattle.records.specs.declared.PlanRefusal.TheVariants.{Board, Beyond}
use Rattle.records.specs.declared.ReadRefusal.{ReadRefusal}
use Rattle.records.specs.declared.ReadRefusal.TheVariants.{Plan}
use Rattle.records.specs.Groups.{spelled}
use Rattle.records.specs.Mark.{mark, mark_bytes}
use Rattle.records.specs.Record.{body, sealed, record_of}
use Rattle.records.specs.Write.{Given, fields_of, plan_tests, list_tests}
use Rattle.records.specs.Form.{Bytes}
use Rattle.records.specs.Read.{Begun, begun, numbers_in, mark_stands, end_tests, given_of, no_room, reading_tests, moves_at}
use Rattle.records.specs.Read.{leaves_read, begun_read, read_back, CellsRead}
use Rattle.records.proofs.theory.Marks.{sealed-length}
use Rattle.records.proofs.theory.Lengths.{Limited}
use Rattle.records.proofs.theory.Standing.{Fits, none as no-numbers, one, fits_both}
use Rattle.records.proofs.theory.Asking.{none-front, under_none, limited, only_room}
use Rattle.records.proofs.theory.Whole.{plan_of, listed, numbers_opened, opened_place, at-moves, from-moves, numbers-found}
use Rattle.records.proofs.theory.Whole.{marks_there, mark-stands_there}

-- ---- the bytes of the plan that was read

the_body : (n : Numbers) (cells moves : List ℕ) → length moves ≡ n.length
    → body (fields_of (given_of n cells moves)) ≡ spelled (listed n cells) ++ moves
unfolding body ceiling_of
the_body n cells moves long = ap (λ (k : ℕ). spelled (n.width ∷ n.height ∷ cells ++ (plan_of n ++ k ∷ [])) ++ moves) long

-- a body with its mark passes the tests of the end
sealed-ends : (b : List ℕ) → NoneHolds (end_tests (sealed b) (length b))
unfolding end_tests sealed
sealed-ends b =
    let m = mark_bytes (mark b) in
    let long = length-append b m in
    let front = ap (λ (l : List ℕ). mark_stands (mark l) (b ++ m) (length b)) (take-append_seam b m) in
    past (le-ltb (length (b ++ m)) (length b + 4) (omega (arith, long)))
    (past (le-ltb (length b + 4) (length (b ++ m)) (omega (arith, long)))
    (past (ap not (front ∙ marks_there b (mark b))) end))

fits_all : (l : List ℕ) → ((i : ℕ) → i < length l → get_or l i 0 < 4294967296) → Fits l
fits_all [] small = no-numbers
fits_all (v ∷ l) small = one (small 0 (omega arith)) (fits_all l (λ i h. small (suc i) (omega arith)))

-- ---- the reader takes it

module _ (n : Numbers) (cells moves found : List ℕ) (passed : NoneHolds (plan_tests (given_of n cells moves) false))
    (long : length moves ≡ n.length) (room : length cells + length moves ≤ length found) where
  abbrev g : Given
  g = given_of n cells moves

  abbrev written : List ℕ
  written = record_of (fields_of g)

  limits : Limited (fields_of g)
  limits = limited g passed

  read : CellsRead n.width n.height cells
  read = record { wide = limits.passed.shape.wide; high = limits.passed.shape.high; long = limits.passed.board.long }

  few : n.length ≤ 120
  few = omega (arith, limits.moves-most, long)

  fits : Fits (listed n cells)
  unfolding ceiling_of
  fits =
      let shape = limits.passed.shape in
      let size = (cells-within shape).most in
      one {v = n.width} (omega (arith, (side_within shape.wide).most))
      (one {v = n.height} (omega (arith, (side_within shape.high).most))
      (fits_both
      (fits_all cells (λ i h. omega (arith, limits.passed.board.small i (omega (arith, limits.passed.board.long)), size)))
      (one {v = n.ceiling} (omega (arith, limits.passed.ceiling))
      (one {v = n.p} (omega (arith, limits.p-most))
      (one {v = n.q} (omega (arith, limits.q-most))
      (one {v = n.visits} (omega (arith, limits.visits-most)) (one {v = n.length} (omega (arith, few)) no-numbers)))))))

  abbrev rest : List ℕ
  rest = moves ++ mark_bytes (mark (body (fields_of g)))

  whole : written ≡ spelled (listed n cells) ++ rest
  unfolding sealed
  whole =
      ap (λ (b : List ℕ). b ++ mark_bytes (mark (body (fields_of g)))) (the_body n cells moves long)
      ∙ append_assoc (spelled (listed n cells)) moves (mark_bytes (mark (body (fields_of g))))

  abbrev at : ℕ
  at = at-moves written n cells rest whole read few fits

  behind-numbers : drop at written ≡ rest
  behind-numbers = from-moves written n cells rest whole read few fits

  moves_there : moves_at written at n.length ≡ moves
  moves_there = ap (take n.length) behind-numbers ∙ take_at moves (mark_bytes (mark (body (fields_of g)))) n.length long

  end_there : at + n.length ≡ length (body (fields_of g))
  end_there =
      let m = mark_bytes (mark (body (fields_of g))) in
      let tail = length-append moves m in
      let sum = sealed-length (body (fields_of g)) in
      omega (arith, ap length behind-numbers, length-drop at written, tail, sum, long)

  clear : NoneHolds (end_tests written (at + n.length))
  clear = subst (λ (e : ℕ). NoneHolds (end_tests written e)) (sym end_there) (sealed-ends (body (fields_of g)))

  planned : first_refusal (under Plan (reading_tests n cells moves found)) ≡ none
  planned =
      let enough : no_room cells moves found ≡ false = le-ltb (length found) (length cells + length moves) room in
      under_none Plan (reading_tests n cells moves found)
      (none_means _ (ap (λ (s : Bool). first_refusal (plan_tests g s)) enough ∙ only_room g false passed))

  pub read_accepts : read_back written found
      ≡ record { answer = Ok n; out = (cells ++ moves) ++ drop (length cells + length moves) found }
  unfolding read_back leaves_read
  read_accepts =
      ap (begun_read written found) (numbers-found written n cells rest whole read few fits)
      ∙ ap (λ (l : List ℕ). leaves_read n cells l found
      (first_refusal (end_tests written (at + n.length) ++ under Plan (reading_tests n cells l found)))) moves_there
      ∙ ap (leaves_read n cells moves found) (none-front (under Plan (reading_tests n cells moves found)) clear ∙ planned)

-- ---- and takes nothing else

pub record Accepted (bytes found : List ℕ) (n : Numbers) : Type 0 where
  pub cells : List ℕ
  pub moves : List ℕ
  pub passed : NoneHolds (plan_tests (given_of n cells moves) false)
  pub long : length moves ≡ n.length
  pub count : length cells ≡ n.width * n.height
  pub whole : bytes ≡ record_of (fields_of (given_of n cells moves))
  pub room : length cells + length moves ≤ length found
  pub out : (read_back bytes found).out ≡ (cells ++ moves) ++ drop (length cells + length moves) found

none-append : {R : Type 0} (ts us : List (Test R)) → NoneHolds (ts ++ us) → NoneHolds ts × NoneHolds us
none-append [] us clear = (end, clear)
none-append (t ∷ ts) us (past h rest) = let both = none-append ts us rest in (past h both.0, both.1)

none-under : {R R' : Type 0} (f : R → R') (ts : List (Test R)) → NoneHolds (under f ts) → NoneHolds ts
none-under f ts clear = (none-split f ts (subst NoneHolds (sym (append-nil (under f ts))) clear)).0

list_last : (g : Given) (s : Bool) → NoneHolds (list_tests (fields_of g) s) → s ≡ false
unfolding list_tests
list_last g s (past a (past b (past c (past d end)))) = d

pub room-passed : (g : Given) (s : Bool) → NoneHolds (plan_tests g s) → s ≡ false
unfolding plan_tests
room-passed g s clear =
    last_of (none-split Beyond (limit_tests g.ceiling g.visits g.p g.q)
    (none-split Board (fault_tests g.width g.height g.board) clear).1).1
  where
    last_of : NoneHolds (list_tests (fields_of g) s) → s ≡ false
    last_of clear = list_last g s clear

record Ends (bytes : List ℕ) (e : ℕ) : Type 0 where
  size : length bytes ≡ e + 4
  marked : mark_stands (mark (take e bytes)) bytes e ≡ true

ends_of : (bytes : List ℕ) (e : ℕ) → NoneHolds (end_tests bytes e) → Ends bytes e
unfolding end_tests
ends_of bytes e (past enough (past most (past stands end))) =
    let low = ltb-false (length bytes) (e + 4) enough in
    let high = ltb-false (e + 4) (length bytes) most in
    record { size = omega arith; marked = not-false _ stands }

module _ (bytes found : List ℕ) (each : Bytes bytes) where
  taken : (n : Numbers) (cells : List ℕ) (at : ℕ) → numbers_in bytes ≡ begun n cells at
      → first_refusal (end_tests bytes (at + n.length) ++ under Plan (reading_tests n cells (moves_at bytes at n.length) found)) ≡ none
      → Accepted bytes found n
  unfolding read_back leaves_read sealed
  taken n cells at is none-met =
      let moves = moves_at bytes at n.length in
      let opened = numbers_opened bytes n cells at is in
      let place = opened_place (opened.stand each) opened.read in
      let both = none-append (end_tests bytes (at + n.length)) _ (none_means _ none-met) in
      let ends = ends_of bytes (at + n.length) both.0 in
      let planned = none-under Plan (reading_tests n cells moves found) both.1 in
      let enough = room-passed (given_of n cells moves) (no_room cells moves found) planned in
      let long : length moves ≡ n.length =
      length-take-le n.length (drop at bytes) (omega (arith, length-drop at bytes, ends.size)) in
      let front : take at bytes ≡ spelled (listed n cells) =
      ap (take at) (opened.stand each).begins ∙ take_at (spelled (listed n cells)) (drop at bytes) at (sym place) in
      let start : take (at + n.length) bytes ≡ body (fields_of (given_of n cells moves)) =
      take-add at n.length bytes ∙ ap (λ (l : List ℕ). l ++ moves) front ∙ sym (the_body n cells moves long) in
      record {
        cells = cells;
        moves = moves;
        passed = subst (λ (s : Bool). NoneHolds (plan_tests (given_of n cells moves) s)) enough planned;
        long = long;
        count = opened.read.board.long;
        whole =
            sym (take-append-drop (at + n.length) bytes)
            ∙ ap (λ (l : List ℕ). take (at + n.length) bytes ++ l)
            (mark-stands_there bytes (at + n.length) (mark (take (at + n.length) bytes)) ends.size ends.marked)
            ∙ ap (λ (b : List ℕ). b ++ mark_bytes (mark b)) start;
        room = ltb-false (length found) (length cells + length moves) enough;
        out =
            ap (λ (b : Begun). (begun_read bytes found b).out) is
            ∙ ap (λ (o : Option ReadRefusal). (leaves_read n cells moves found o).out) none-met
            ∙ refl;
      }

  pub accepted : (n : Numbers) → (read_back bytes found).answer ≡ Ok n → Accepted bytes found n
  unfolding read_back leaves_read
  accepted n e = go (numbers_in bytes) refl e
    where
      tested : (m : Numbers) (cells : List ℕ) (at : ℕ) → numbers_in bytes ≡ begun m cells at → (o : Option ReadRefusal)
          → first_refusal (end_tests bytes (at + m.length) ++ under Plan (reading_tests m cells (moves_at bytes at m.length) found)) ≡ o
          → (leaves_read m cells (moves_at bytes at m.length) found o).answer ≡ Ok n → Accepted bytes found n
      tested m cells at is (some why) met f = cc
      tested m cells at is none met f =
          let same : m ≡ n = cc in
          subst (Accepted bytes found) same (taken m cells at is met)

      go : (b : Begun) → numbers_in bytes ≡ b → (begun_read bytes found b).answer ≡ Ok n → Accepted bytes found n
      go (Err why) is f = cc
      go (Ok (m, cells, at)) is f = tested m cells at is _ refl f
