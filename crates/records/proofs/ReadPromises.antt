-- What is promised of reading records back: what the writer writes is read back to the same fields; what the reader accepts, the writer
-- would have written, byte for byte; no two records are read to the same fields; what is accepted is exactly what `Form` calls a
-- record; a refusal is that of the first condition met; the output afterwards; and nothing is left open. Assumes nothing.
use Prim.Native.Nat.{ℕ, ◌+◌, ◌*◌, ◌≤◌}
use native.Mathlib.Omega.{arith}
use mathlib.Core.Path.{◌≡◌, refl, sym, ap, subst, ◌∙◌}
use mathlib.Core.Logic.{◌↔◌}
use mathlib.Core.Bool.{Bool, false}
use mathlib.Core.List.{List, ◌++◌, append_assoc}
use lib.IntN.{ℤ}
use lib.ListN.{length, take, drop}
use lib.Seq.{take_at, drop_at}
use borrow.Author.Tests.{le-ltb}
use Rattle.std.specs.Prelude.{Result, Ok, Err}
use Rattle.board.specs.Tests.{NoneHolds}
use Rattle.board.specs.Faults.{fault_tests}
use Rattle.board.proofs.Laws.{none-split}
use Rattle.planner.specs.Limits.{ceiling_of, CommonDivisor, limit_tests}
use Rattle.planner.proofs.theory.Passing.{limits-kept}
use Rattle.planner.proofs.theory.Lowest.{kept-lowest}
use Rattle.records.specs.declared.PlanRefusal.TheVariants.{Board, Beyond}
use Rattle.records.specs.declared.Numbers.{Numbers}
use Rattle.records.specs.declared.ReadRefusal.{ReadRefusal}
use Rattle.records.specs.Record.{Fields, record_of}
use Rattle.records.specs.Write.{Given, given, fields_of, plan_tests, too_short, write_tests, written}
use Rattle.records.specs.Form.{Bytes, IsRecord}
use Rattle.records.specs.Read.{given_of, ReadLeft, read_back, ReadSettles}
use Rattle.records.proofs.theory.Outcomes.{passes, recorded_by, record_leaves}
use Rattle.records.proofs.theory.Back.{read_accepts, Accepted, accepted, room-passed}
use Rattle.records.proofs.theory.Refusing.{Met, refused_met, met_refused, refused_keeps}
use Rattle.records.proofs.theory.Forming.{formed, form_of}
use Rattle.records.proofs.Promises.{else_written, record_in_front}

-- the numbers of a plan, and what an output holds that received its cells and then its moves
abbrev pub numbers_for : Given → Numbers
numbers_for g =
    record {
      width = g.width;
      height = g.height;
      ceiling = ceiling_of g.ceiling;
      p = g.p;
      q = g.q;
      visits = g.visits;
      length = length g.moves;
    }

abbrev pub received : List ℕ → List ℕ → List ℕ → List ℕ
received cells moves found = (cells ++ moves) ++ drop (length cells + length moves) found

abbrev pub cells_in : Numbers → List ℕ → List ℕ
cells_in n out = take (n.width * n.height) out

abbrev pub moves_in : Numbers → List ℕ → List ℕ
moves_in n out = take n.length (drop (n.width * n.height) out)

-- ---- what the writer writes is read back

clear-plan : (g : Given) (found : List ℕ) → NoneHolds (write_tests g found) → NoneHolds (plan_tests g false)
unfolding write_tests
clear-plan g found clear =
    subst (λ (s : Bool). NoneHolds (plan_tests g s)) (room-passed g (too_short (record_of (fields_of g)) found) clear) clear

pub written_reads : (g : Given) (found : List ℕ) (k : ℕ) → (written g found).answer ≡ Ok k → (room : List ℕ)
    → length g.board + length g.moves ≤ length room
    → read_back (take k (written g found).out) room
    ≡ record { answer = Ok (numbers_for g); out = received g.board g.moves room }
written_reads g found k e room enough =
    let clear = ((else_written g found k).0 e).0 in
    let same : given_of (numbers_for g) g.board g.moves ≡ g =
    ap (λ (z : ℤ). given g.width g.height g.board z g.p g.q g.visits g.moves) (passes g found clear).ceiling-is in
    ap (λ (bytes : List ℕ). read_back bytes room) (record_in_front g found k e ∙ ap (λ (h : Given). record_of (fields_of h)) (sym same))
    ∙ read_accepts (numbers_for g) g.board g.moves room
    (subst (λ (h : Given). NoneHolds (plan_tests h false)) (sym same) (clear-plan g found clear)) refl enough

-- ---- what the reader accepts, the writer would have written

passed-lowest : (g : Given) → NoneHolds (plan_tests g false) → CommonDivisor g.p g.q → ⊥
unfolding plan_tests
passed-lowest g passed =
    let first = none-split Board (fault_tests g.width g.height g.board) passed in
    let second = none-split Beyond (limit_tests g.ceiling g.visits g.p g.q) first.1 in
    kept-lowest (limits-kept g.ceiling g.visits g.p g.q second.0)

module _ (bytes found : List ℕ) (each : Bytes bytes) (n : Numbers) (e : (read_back bytes found).answer ≡ Ok n) where
  -- the plan as it was read: its numbers from the answer, its cells and moves from the output
  abbrev pub plan : Given
  plan = given_of n (cells_in n (read_back bytes found).out) (moves_in n (read_back bytes found).out)

  taken : Accepted bytes found n
  taken = accepted bytes found each n e

  out-parts : (read_back bytes found).out
      ≡ taken.cells ++ (taken.moves ++ drop (length taken.cells + length taken.moves) found)
  out-parts = taken.out ∙ append_assoc taken.cells taken.moves (drop (length taken.cells + length taken.moves) found)

  cells_are : cells_in n (read_back bytes found).out ≡ taken.cells
  cells_are = ap (take (n.width * n.height)) out-parts ∙ take_at taken.cells _ (n.width * n.height) taken.count

  moves_are : moves_in n (read_back bytes found).out ≡ taken.moves
  moves_are =
      ap (λ (l : List ℕ). take n.length (drop (n.width * n.height) l)) out-parts
      ∙ ap (take n.length) (drop_at taken.cells _ (n.width * n.height) taken.count)
      ∙ take_at taken.moves _ n.length taken.long

  plan-is : plan ≡ given_of n taken.cells taken.moves
  plan-is = ap (λ (c : List ℕ). given_of n c (moves_in n (read_back bytes found).out)) cells_are ∙ ap (given_of n taken.cells) moves_are

  -- the bytes are the record of that plan
  pub read_record : bytes ≡ record_of (fields_of plan)
  read_record = taken.whole ∙ ap (λ (h : Given). record_of (fields_of h)) (sym plan-is)

  pub read-writes : (room : List ℕ) → length bytes ≤ length room
      → ((written plan room).answer ≡ Ok (length bytes)) × ((written plan room).out ≡ bytes ++ drop (length bytes) room)
  unfolding written write_tests
  read-writes room enough =
      let passed = subst (λ (h : Given). NoneHolds (plan_tests h false)) (sym plan-is) taken.passed in
      let long : length (record_of (fields_of plan)) ≡ length bytes = ap length (sym read_record) in
      let fits : too_short (record_of (fields_of plan)) room ≡ false =
      le-ltb (length room) (length (record_of (fields_of plan))) (omega (arith, long)) in
      let clear : NoneHolds (write_tests plan room) = subst (λ (s : Bool). NoneHolds (plan_tests plan s)) (sym fits) passed in
      let answer = (recorded_by (record_of (fields_of plan)) room (write_tests plan room) (length bytes)).1 (clear, sym long) in (
        answer,
        record_leaves (record_of (fields_of plan)) room (write_tests plan room) (length bytes) answer
            ∙ ap (λ (l : List ℕ). l ++ drop (length bytes) room) (sym read_record),
      )

  -- its weight is in lowest terms: a record that was written with another is refused
  pub read-lowest : CommonDivisor n.p n.q → ⊥
  read-lowest = passed-lowest (given_of n taken.cells taken.moves) taken.passed

  -- there was room, and the rest of the output stays
  pub read_receives : (read_back bytes found).out
      ≡ received (cells_in n (read_back bytes found).out) (moves_in n (read_back bytes found).out) found
  read_receives = taken.out ∙ ap (λ (c : List ℕ). received c taken.moves found) (sym cells_are)
      ∙ ap (λ (m : List ℕ). received (cells_in n (read_back bytes found).out) m found) (sym moves_are)

-- no two different records are read to the same fields
pub one_record : (bytes other found room : List ℕ) → Bytes bytes → Bytes other → (n : Numbers)
    → (read_back bytes found).answer ≡ Ok n → (read_back other room).answer ≡ Ok n
    → cells_in n (read_back bytes found).out ≡ cells_in n (read_back other room).out
    → moves_in n (read_back bytes found).out ≡ moves_in n (read_back other room).out
    → bytes ≡ other
one_record bytes other found room each each' n e e' cells moves =
    read_record bytes found each n e
    ∙ ap (λ (c : List ℕ). record_of (fields_of (given_of n c (moves_in n (read_back bytes found).out)))) cells
    ∙ ap (λ (m : List ℕ). record_of (fields_of (given_of n (cells_in n (read_back other room).out) m))) moves
    ∙ sym (read_record other room each' n e')

-- ---- what is accepted is exactly a record

abbrev pub numbers_of_fields : Fields → Numbers
numbers_of_fields f =
    record {
      width = f.width;
      height = f.height;
      ceiling = f.ceiling;
      p = f.p;
      q = f.q;
      visits = f.visits;
      length = length f.moves;
    }

-- with room for it: bytes are read to these fields exactly if they are a record of them
pub accepts_exactly : (bytes found : List ℕ) → Bytes bytes → (f : Fields) → length f.cells ≡ f.width * f.height
    → length f.cells + length f.moves ≤ length found
    → (read_back bytes found ≡ record { answer = Ok (numbers_of_fields f); out = received f.cells f.moves found })
    ↔ IsRecord bytes f
accepts_exactly bytes found each f count room = (
  λ e.
      let n = numbers_of_fields f in
      let answer = ap (λ (l : ReadLeft). l.answer) e in
      let t = taken bytes found each n answer in
      let out = sym (ap (λ (l : ReadLeft). l.out) e)
      ∙ out-parts bytes found each n answer in
      let front = append_assoc f.cells f.moves (drop (length f.cells + length f.moves) found) in
      let cells : f.cells ≡ t.cells =
      sym (take_at f.cells _ (f.width * f.height) count)
      ∙ ap (take (f.width * f.height)) (sym front ∙ out)
      ∙ take_at t.cells _ (f.width * f.height) t.count in
      let moves : f.moves ≡ t.moves =
      sym (take_at f.moves _ (length f.moves) refl)
      ∙ ap (take (length f.moves))
      (sym (drop_at f.cells _ (f.width * f.height) count)
      ∙ ap (drop (f.width * f.height)) (sym front ∙ out)
      ∙ drop_at t.cells _ (f.width * f.height) t.count)
      ∙ take_at t.moves _ (length f.moves) t.long in
      form_of bytes f
      (subst (λ (c : List ℕ). NoneHolds (plan_tests (given_of n c f.moves) false)) (sym cells)
      (subst (λ (m : List ℕ). NoneHolds (plan_tests (given_of n t.cells m) false)) (sym moves) t.passed))
      (t.whole
      ∙ ap (λ (m : List ℕ). record_of (fields_of (given_of n t.cells m))) (sym moves)
      ∙ ap (λ (c : List ℕ). record_of (fields_of (given_of n c f.moves))) (sym cells)),
  λ is.
      let both = formed bytes f is in
      ap (λ (l : List ℕ). read_back l found) both.1
      ∙ read_accepts (numbers_of_fields f) f.cells f.moves found both.0 refl room,
)

-- ---- refusals

module _ (bytes found : List ℕ) (why : ReadRefusal) where
  -- a refusal is given exactly when its condition is the first met: while the numbers are read, or else in the tests behind them
  pub read-refused_exactly : ((read_back bytes found).answer ≡ Err why) ↔ Met bytes found why
  read-refused_exactly = (refused_met bytes found why, met_refused bytes found why)

  -- and leaves all of the output
  pub read-refusal-leaves : (read_back bytes found).answer ≡ Err why → (read_back bytes found).out ≡ found
  read-refusal-leaves e = refused_keeps bytes found why e

-- ---- nothing is left open

-- any two results that the contract allows are equal
pub one-reading : (bytes found : List ℕ) (answer other : Result Numbers ReadRefusal) (out others : List ℕ)
    → ReadSettles (read_back bytes found) answer out → ReadSettles (read_back bytes found) other others → (answer ≡ other) × (out ≡ others)
one-reading bytes found answer other out others one two =
    (one.answers ∙ sym two.answers, one.leaves ∙ sym two.leaves)
