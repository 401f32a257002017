-- E1's tests of a plan that was read. First lists of tests one behind the other; then that test 8 matters last, and what the writer says
-- with room for every record; then that cells and ceilings that no byte and no i32 hold may be asked as smaller ones. Assumes nothing.
use Prim.Native.Nat.{ℕ, ◌*◌, ◌≤◌, ◌<◌}
use native.Mathlib.Omega.{arith}
use mathlib.Core.Path.{◌≡◌, refl, sym, ap, subst, ◌∙◌}
use mathlib.Core.Bool.{Bool, true, false, cond, true≢false}
use mathlib.Core.List.{List, [], ◌∷◌, ◌++◌, map, append-nil}
use mathlib.Core.Option.{Option, none, some}
use lib.Dec.{ltb, leb}
use lib.IntN.{pos}
use lib.ListN.{length, get_or, length-map, get_or-map}
use lib.Seq.{ext_get_or}
use borrow.Author.Tests.{lt-ltb, le-ltb, le-leb, ltb-true, ltb-false, eq-eqb}
use Rattle.std.specs.Prelude.{Result, Ok, Err}
use Rattle.board.specs.declared.Fault.TheVariants.{TooLarge}
use Rattle.board.specs.Tests.{Test, test, first_refusal, FirstToHold, here, later, NoneHolds, end, past, under}
use Rattle.board.specs.Faults.{fault_tests, first_too_large}
use Rattle.board.proofs.Laws.{first_means, first-given, none_means, none-given, front-given, behind-given, none-split}
use Rattle.board.proofs.Laws.{Split, front, behind, first-split, front-refusal, behind-refusal, same-behind}
use Rattle.board.proofs.Laws.{side_passes, cells-within, first_of_cong, none_too_large, too_large_within}
use Rattle.planner.specs.declared.Limit.TheVariants.{BadCeiling}
use Rattle.planner.specs.Limits.{bad_ceiling, limit_tests}
use Rattle.planner.proofs.theory.Passing.{outside_means}
use Rattle.planner.proofs.code.Testing.{outside_5}
use Rattle.records.specs.declared.Numbers.{Numbers}
use Rattle.records.specs.declared.PlanRefusal.{PlanRefusal}
use Rattle.records.specs.declared.PlanRefusal.TheVariants.{Board, Beyond, ShortOutput}
use Rattle.records.specs.declared.ReadRefusal.TheVariants.{Plan}
use Rattle.records.specs.Record.{record_of}
use Rattle.records.specs.Write.{Given, given, fields_of, list_tests, plan_tests, too_short, write_tests, written}
use Rattle.records.specs.Read.{given_of, no_room, reading_tests, leaves_read, plan_read, room_read, refusing, clamped, lowered, CellsRead}
use Rattle.records.proofs.theory.Lengths.{Limited, record_most}
use Rattle.records.proofs.theory.Outcomes.{passes, refused_by, recorded_by}

-- ---- lists of tests

module _ {R : Type 0} where
  pub first-front : {ts : List (Test R)} {r : R} (us : List (Test R)) → FirstToHold ts r → FirstToHold (ts ++ us) r
  first-front us (here h) = here h
  first-front us (later h rest) = later h (first-front us rest)

  pub none-front : {ts : List (Test R)} (us : List (Test R)) → NoneHolds ts → first_refusal (ts ++ us) ≡ first_refusal us
  unfolding first_refusal
  none-front us end = refl
  none-front us (past h rest) = rw h (none-front us rest)

module _ {R R' : Type 0} (f : R → R') where
  pub under_some : (ts : List (Test R)) (r : R) → first_refusal ts ≡ some r → first_refusal (under f ts) ≡ some (f r)
  under_some ts r e = subst (λ l. first_refusal l ≡ some (f r)) (append-nil (under f ts)) (front-refusal f ts [] r e)

  pub under_none : (ts : List (Test R)) → NoneHolds ts → first_refusal (under f ts) ≡ none
  unfolding first_refusal
  under_none ts passed = subst (λ l. first_refusal l ≡ none) (append-nil (under f ts)) (behind-refusal f [] passed)

-- why the writer refuses
abbrev pub why_of : Result ℕ PlanRefusal → Option PlanRefusal
why_of (Ok k) = none
why_of (Err why) = some why

-- ---- test 8 is the last

module _ (g : Given) where
  list_any : {why : PlanRefusal} (s : Bool) → FirstToHold (list_tests (fields_of g) false) why
      → FirstToHold (list_tests (fields_of g) s) why
  unfolding list_tests
  list_any s (here a) = here a
  list_any s (later a (here b)) = later a (here b)
  list_any s (later a (later b (here c))) = later a (later b (here c))
  list_any s (later a (later b (later c (here d)))) = absurd (true≢false (sym d))
  list_any {why = why} s (later a (later b (later c (later _ x20)))) = elim x20 [ ]

  list_room : (s : Bool) → NoneHolds (list_tests (fields_of g) false)
      → first_refusal (list_tests (fields_of g) s) ≡ cond s (some ShortOutput) none
  unfolding list_tests first_refusal
  list_room s (past a (past b (past c rest))) = rw (a, b, c)

  -- a refusal before it is given whatever the room
  pub any_room : {why : PlanRefusal} (s : Bool) → FirstToHold (plan_tests g false) why → FirstToHold (plan_tests g s) why
  unfolding plan_tests
  any_room s first = board (first-split Board _ first)
    where
      limits : {why : PlanRefusal}
          → Split Beyond (limit_tests g.ceiling g.visits g.p g.q) (list_tests (fields_of g) false) why
          → FirstToHold (under Beyond (limit_tests g.ceiling g.visits g.p g.q) ++ list_tests (fields_of g) s) why
      limits (front limit) = front-given Beyond _ limit
      limits (behind kept rest) = behind-given Beyond kept (list_any s rest)

      board : {why : PlanRefusal}
          → Split Board (fault_tests g.width g.height g.board)
          (under Beyond (limit_tests g.ceiling g.visits g.p g.q) ++ list_tests (fields_of g) false) why
          → FirstToHold (under Board (fault_tests g.width g.height g.board)
          ++ (under Beyond (limit_tests g.ceiling g.visits g.p g.q) ++ list_tests (fields_of g) s)) why
      board (front fault) = front-given Board _ fault
      board (behind sound rest) = behind-given Board sound (limits (first-split Beyond _ rest))

  pub only_room : (s : Bool) → NoneHolds (plan_tests g false) → first_refusal (plan_tests g s) ≡ cond s (some ShortOutput) none
  unfolding plan_tests
  only_room s passed =
      let sound = none-split Board (fault_tests g.width g.height g.board) passed in
      let kept = none-split Beyond (limit_tests g.ceiling g.visits g.p g.q) sound.1 in
      behind-refusal Board _ sound.0 ∙ behind-refusal Beyond _ kept.0 ∙ list_room s kept.1

  -- a plan that passes the others is within all limits
  pub limited : NoneHolds (plan_tests g false) → Limited (fields_of g)
  unfolding write_tests
  limited passed =
      let bytes = record_of (fields_of g) in
      let room : too_short bytes bytes ≡ false = le-ltb (length bytes) (length bytes) (omega arith) in
      (passes g bytes (none_means _ (ap (λ s. first_refusal (plan_tests g s)) room ∙ none-given passed))).limited

  -- ---- the writer, asked with room for every record

  pub writer_says : (room : List ℕ) → length room ≡ 149 → why_of (written g room).answer ≡ first_refusal (plan_tests g false)
  unfolding written write_tests
  writer_says room long = go (first_refusal (plan_tests g false)) refl
    where
      bytes : List ℕ
      bytes = record_of (fields_of g)

      go : (o : Option PlanRefusal) → first_refusal (plan_tests g false) ≡ o → why_of (written g room).answer ≡ o
      go (some why) e = rw ((refused_by bytes room (write_tests g room) why).1 (any_room (too_short bytes room) (first_means _ why e)))
      go none e =
          let passed = none_means (plan_tests g false) e in
          let fits : too_short bytes room ≡ false =
          le-ltb (length room) (length bytes) (omega (arith, record_most (fields_of g) (limited passed))) in
          let clear : NoneHolds (write_tests g room) = none_means _ (ap (λ s. first_refusal (plan_tests g s)) fits ∙ e) in
          rw ((recorded_by bytes room (write_tests g room) (length bytes)).1 (clear, refl))

-- ---- a ceiling above 120 may be asked as 121

-- the plan with its ceiling lowered
abbrev pub lowered_of : Numbers → List ℕ → List ℕ → Given
lowered_of n cells moves = given n.width n.height cells (pos (lowered n.ceiling)) n.p n.q n.visits moves

refused_five : (g : Given) (s : Bool) → bad_ceiling g.ceiling ≡ true
    → first_refusal (under Beyond (limit_tests g.ceiling g.visits g.p g.q) ++ list_tests (fields_of g) s) ≡ some (Beyond BadCeiling)
refused_five g s five =
    first-given
    (front-given Beyond _
    (outside_means g.ceiling g.visits g.p g.q BadCeiling (sym (outside_5 g.ceiling g.visits g.p g.q five))))

large_five : (c : ℕ) → 120 < c → bad_ceiling (pos c) ≡ true
unfolding bad_ceiling
large_five c h = lt-ltb 120 c h

pub lowered-same : (n : Numbers) (cells moves : List ℕ) (s : Bool)
    → first_refusal (plan_tests (lowered_of n cells moves) s) ≡ first_refusal (plan_tests (given_of n cells moves) s)
unfolding plan_tests
lowered-same n cells moves s = go (ltb 120 n.ceiling) refl
  where
    low : Given
    low = lowered_of n cells moves

    high : Given
    high = given_of n cells moves

    go : (t : Bool) → ltb 120 n.ceiling ≡ t → first_refusal (plan_tests low s) ≡ first_refusal (plan_tests high s)
    go true h =
        let above = ltb-true 120 n.ceiling h in
        let down : 120 < lowered n.ceiling = omega arith in
        same-behind Board (fault_tests n.width n.height cells) _ _
        (λ sound. refused_five low s (large_five (lowered n.ceiling) down) ∙ sym (refused_five high s (large_five n.ceiling above)))
    go false h =
        let few = ltb-false 120 n.ceiling h in
        let same : lowered n.ceiling ≡ n.ceiling = omega arith in
        ap (λ c. first_refusal (plan_tests (given n.width n.height cells (pos c) n.p n.q n.visits moves) s)) same

-- ---- a cell that no byte holds may be asked as 255

pub at-clamped : (b : List ℕ) (i : ℕ) → get_or (map clamped b) i 0 ≡ clamped (get_or b i 0)
at-clamped b i =
    let none : 0 ≡ clamped 0 = omega arith in
    ap (get_or (map clamped b) i) none ∙ get_or-map clamped b i 0

as_large : (n v : ℕ) → n ≤ 16 → leb n v ≡ leb n (clamped v)
as_large n v few = go (ltb v 255) refl
  where
    go : (t : Bool) → ltb v 255 ≡ t → leb n v ≡ leb n (clamped v)
    go true h =
        let small = ltb-true v 255 h in
        let same : v ≡ clamped v = omega arith in
        ap (leb n) same
    go false h =
        let large = ltb-false v 255 h in
        le-leb n v (omega arith) ∙ sym (le-leb n (clamped v) (omega arith))

large_same : (n : ℕ) (b : List ℕ) → n ≤ 16 → first_too_large n b ≡ first_too_large n (map clamped b)
unfolding first_too_large
large_same n b few =
    first_of_cong _ _ 0 n (λ i l h. as_large n (get_or b i 0) few ∙ ap (leb n) (sym (at-clamped b i)))

large_fault : (n : Numbers) (cells : List ℕ) → CellsRead n.width n.height cells → (i : ℕ)
    → first_too_large (n.width * n.height) cells ≡ i → i < n.width * n.height
    → FirstToHold (fault_tests n.width n.height cells) (TooLarge i)
unfolding fault_tests first_refusal
large_fault n cells read i is inside =
    first_means _ (TooLarge i) (found i is inside)
  where
    found : (i : ℕ) → first_too_large (n.width * n.height) cells ≡ i → i < n.width * n.height
        → first_refusal (fault_tests n.width n.height cells) ≡ some (TooLarge i)
    found i is inside =
        simp (
          side_passes read.wide,
          side_passes read.high,
          eq-eqb (length cells) (n.width * n.height) read.long,
          is,
          lt-ltb i _ inside,
        )

refused_large : (n : Numbers) (cells moves found : List ℕ) → CellsRead n.width n.height cells → (i : ℕ)
    → first_too_large (n.width * n.height) cells ≡ i → i < n.width * n.height
    → plan_read n cells moves found ≡ refusing (Plan (Board (TooLarge i))) found
unfolding plan_tests leaves_read
refused_large n cells moves found read i is inside =
    rw (under_some Plan (reading_tests n cells moves found) _ (first-given (front-given Board _ (large_fault n cells read i is inside))))

pub clamped-same : (n : Numbers) (cells moves found : List ℕ) → CellsRead n.width n.height cells
    → plan_read n cells moves found ≡ plan_read n (map clamped cells) moves found
clamped-same n cells moves found read = go (ltb (first_too_large size cells) size) refl
  where
    size : ℕ
    size = n.width * n.height

    few : size ≤ 16
    few = (cells-within (record { wide = read.wide; high = read.high })).most

    as_bytes : CellsRead n.width n.height (map clamped cells)
    as_bytes = record { wide = read.wide; high = read.high; long = length-map cells clamped ∙ read.long }

    go : (t : Bool) → ltb (first_too_large size cells) size ≡ t
        → plan_read n cells moves found ≡ plan_read n (map clamped cells) moves found
    go true h =
        let inside = ltb-true (first_too_large size cells) size h in
        refused_large n cells moves found read _ refl inside
        ∙ sym (refused_large n (map clamped cells) moves found as_bytes _ (sym (large_same size cells few)) inside)
    go false h =
        let all : first_too_large size cells ≡ size =
        omega (arith, ltb-false (first_too_large size cells) size h, too_large_within size cells) in
        let small = (none_too_large size cells).0 all in
        let same : cells ≡ map clamped cells =
        ext_get_or 0 cells (map clamped cells) (sym (length-map cells clamped))
        (λ i inside.
        let below = small i (omega (arith, read.long)) in
        let one : clamped (get_or cells i 0) ≡ get_or cells i 0 = omega (arith, below, few) in
        sym (at-clamped cells i ∙ one)) in
        ap (λ b. plan_read n b moves found) same

-- ---- what the reader answers

module _ (n : Numbers) (cells moves found : List ℕ) where
  abbrev g : Given
  g = given_of n cells moves

  pub plan-refused : (why : PlanRefusal) → first_refusal (plan_tests g false) ≡ some why
      → plan_read n cells moves found ≡ refusing (Plan why) found
  unfolding leaves_read
  plan-refused why e =
      let first = any_room g (no_room cells moves found) (first_means _ why e) in
      rw (under_some Plan (reading_tests n cells moves found) why (first-given first))

  pub plan-passed : first_refusal (plan_tests g false) ≡ none → plan_read n cells moves found ≡ room_read n cells moves found
  unfolding first_refusal
  plan-passed e = ap (leaves_read n cells moves found) (go (no_room cells moves found) refl)
    where
      go : (s : Bool) → no_room cells moves found ≡ s
          → first_refusal (under Plan (reading_tests n cells moves found)) ≡ first_refusal (test s (Plan ShortOutput) ∷ [])
      go true h =
          under_some Plan (reading_tests n cells moves found) ShortOutput
          (ap (λ s. first_refusal (plan_tests g s)) h ∙ only_room g true (none_means _ e))
      go false h =
          under_none Plan (reading_tests n cells moves found)
          (none_means _ (ap (λ s. first_refusal (plan_tests g s)) h ∙ only_room g false (none_means _ e)))
