-- The reader's ways out as the code takes them: what each settles. First the tests of the end, then test 8 with the output, then the
-- writer's answer, then the numbers one after the other. Assumes nothing.
use Prim.Native.Nat.{ℕ, ◌+◌, ◌*◌, ◌/◌, ◌%◌, ◌≤◌, ◌<◌}
use native.Mathlib.Omega.{arith}
use mathlib.Core.Path.{◌≡◌, refl, sym, ap, subst, ◌∙◌}
use mathlib.Core.Bool.{Bool, true, false, not, ◌&&◌}
use mathlib.Core.List.{List, ◌++◌, map}
use mathlib.Core.Option.{Option, none, some}
use lib.Dec.{ltb, eqb}
use lib.IntN.{ℤ, pos}
use lib.ListN.{length, get_or, take, drop, length-append, length-drop, length-map}
use lib.Pointwise.{pointwise}
use lib.Seq.{take_all}
use mir.Syntax.{w32}
use mir.Val.{to_z, of_z}
use mir.ValLaws.{to_z-of_z}
use borrow.Author.Tests.{lt-ltb, le-ltb, ltb-false}
use Rattle.std.specs.Prelude.{Result, Ok, Err, nat_eq}
use Rattle.std.proofs.lemmas.List.{take-map, ext_get_or}
use Rattle.board.specs.Shape.{Side}
use Rattle.board.specs.Tests.{first_refusal, NoneHolds, past, under}
use Rattle.board.proofs.Laws.{first_means, first-given, none_means, cells-within}
use Rattle.records.specs.declared.Numbers.{Numbers}
use Rattle.records.specs.declared.PlanRefusal.{PlanRefusal}
use Rattle.records.specs.declared.PlanRefusal.TheVariants.{ShortOutput}
use Rattle.records.specs.declared.ReadRefusal.{ReadRefusal}
use Rattle.records.specs.declared.ReadRefusal.TheVariants.{WrongMark, Plan}
use Rattle.records.specs.Mark.{mark, mark_bytes}
use Rattle.records.specs.Put.{Put}
use Rattle.records.specs.Write.{given, plan_tests, written, Settles}
use Rattle.records.specs.Read.{begun, numbers_in, given_of, reading_tests, moves_at}
use Rattle.records.specs.Read.{mark_stands, end_tests, end_said, leaves_read, plan_read, room_read, end_read, read_back}
use Rattle.records.specs.Read.{ReadSettles, clamped, lowered, CellsRead}
use Rattle.records.proofs.theory.Asking.{first-front, none-front, why_of, writer_says, lowered_of, lowered-same}
use Rattle.records.proofs.theory.Asking.{at-clamped, clamped-same, plan-refused, plan-passed}
use Rattle.records.proofs.theory.Whole.{four-left}
use Rattle.records.proofs.code.Storing.{put_front, put_then}

-- ---- how many cells

pub few_sides : {width height : ℕ} → Side width → Side height → width * height ≤ 16
few_sides wide high = (cells-within (record { wide = wide; high = high })).most

-- ---- 17, 20, 19

none_first : (bytes : List ℕ) (end : ℕ) → NoneHolds (end_tests bytes end) → ltb (length bytes) (end + 4) ≡ false
unfolding end_tests
none_first bytes end (past enough rest) = enough

and_true : (t : Bool) → t && true ≡ t
and_true true = refl
and_true false = refl

-- the bytes behind a place, all of them, are compared with a mark's four
compared : (bytes : List ℕ) (end m n : ℕ) → length bytes ≡ end + 4 → length bytes ≤ end + n
    → pointwise nat_eq (take n (drop end bytes)) (mark_bytes m) ≡ mark_stands m bytes end
unfolding mark_stands
compared bytes end m n long whole =
    let all = take_all n (drop end bytes) (omega (arith, length-drop end bytes)) in
    ap (λ l. pointwise nat_eq l (mark_bytes m)) (all ∙ four-left bytes end long)
    ∙ ap (λ t. eqb (get_or bytes end 0) (m / 16777216 % 256)
    && (eqb (get_or bytes (end + 1) 0) (m / 65536 % 256) && (eqb (get_or bytes (end + 2) 0) (m / 256 % 256) && t)))
    (and_true (eqb (get_or bytes (end + 3) 0) (m % 256)))

module _ (bytes : List ℕ) (end m n : ℕ) (enough : end + 4 ≤ length bytes) (most : length bytes ≤ end + 4)
    (marks : m ≡ mark (take end bytes)) (four : List ℕ) where
  differ : (t : Bool) → not (pointwise nat_eq (take n (drop end bytes)) four) ≡ t → length bytes ≤ end + n → four ≡ mark_bytes m
      → not (mark_stands (mark (take end bytes)) bytes end) ≡ t
  differ t e whole are =
      ap (λ k. not (mark_stands k bytes end)) (sym marks)
      ∙ ap not (sym (compared bytes end m n (omega arith) whole))
      ∙ ap (λ l. not (pointwise nat_eq (take n (drop end bytes)) l)) (sym are)
      ∙ e

  pub end_whole : not (pointwise nat_eq (take n (drop end bytes)) four) ≡ false → length bytes ≤ end + n → four ≡ mark_bytes m
      → Ok tt ≡ end_said (first_refusal (end_tests bytes end))
  unfolding end_tests first_refusal
  end_whole e whole are =
      rw (le-ltb (length bytes) (end + 4) enough, le-ltb (end + 4) (length bytes) most, differ false e whole are)

  pub end_wrong : not (pointwise nat_eq (take n (drop end bytes)) four) ≡ true → length bytes ≤ end + n → four ≡ mark_bytes m
      → Err WrongMark ≡ end_said (first_refusal (end_tests bytes end))
  unfolding end_tests first_refusal
  end_wrong e whole are =
      rw (le-ltb (length bytes) (end + 4) enough, le-ltb (end + 4) (length bytes) most, differ true e whole are)

-- ---- test 8

module _ (n : Numbers) (cells moves found : List ℕ) where
  pub room-refused : length found < length cells + length moves
      → ReadSettles (room_read n cells moves found) (Err (Plan ShortOutput)) found
  unfolding leaves_read first_refusal
  room-refused less = rw (lt-ltb (length found) (length cells + length moves) less) (record { answers = refl; leaves = refl })

  pub room-read : {mid new : List ℕ} {k next : ℕ} → length cells + length moves ≤ length found → Put cells found 0 mid k
      → Put moves mid k new next → ReadSettles (room_read n cells moves found) (Ok n) new
  unfolding leaves_read first_refusal
  room-read room first second =
      let both = length-append cells moves in
      rw (le-ltb (length found) (length cells + length moves) room)
      (record {
        answers = refl;
        leaves =
            put_front (put_then first second) (omega (arith, both))
            ∙ ap (λ k. (cells ++ moves) ++ drop k found) both;
      })

-- ---- what the writer says of the plan

pub lowered-back : (c m : ℕ) → m ≡ lowered c → to_z w32 (of_z w32 (pos m)) ≡ pos (lowered c)
lowered-back c m e = to_z-of_z w32 (pos m) (record { sfits = omega arith }) ∙ ap pos e

module _ (n : Numbers) (board moves found : List ℕ) (z : ℤ) (ceiling : z ≡ pos (lowered n.ceiling)) (room : List ℕ)
    (long : length room ≡ 149) (r : Result ℕ PlanRefusal) (left : List ℕ)
    (asked : Settles (written (given n.width n.height board z n.p n.q n.visits moves) room) r left) where
  said : first_refusal (plan_tests (given_of n board moves) false) ≡ why_of r
  said =
      let answer = asked.answers
      ∙ ap (λ y. (written (given n.width n.height board y n.p n.q n.visits moves) room).answer) ceiling in
      sym (ap why_of answer ∙ writer_says (lowered_of n board moves) room long ∙ lowered-same n board moves false)

  pub asked_refused : (why : PlanRefusal) → r ≡ Err why → ReadSettles (plan_read n board moves found) (Err (Plan why)) found
  asked_refused why e = rw (plan-refused n board moves found why (said ∙ ap why_of e)) (record { answers = refl; leaves = refl })

  module _ (k : ℕ) (e : r ≡ Ok k) where
    pub asked-short : length found < length board + length moves
        → ReadSettles (plan_read n board moves found) (Err (Plan ShortOutput)) found
    asked-short less = rw (plan-passed n board moves found (said ∙ ap why_of e)) (room-refused n board moves found less)

    pub asked-read : {mid new : List ℕ} {j next : ℕ} → length board + length moves ≤ length found → Put board found 0 mid j
        → Put moves mid j new next → ReadSettles (plan_read n board moves found) (Ok n) new
    asked-read enough first second =
        rw (plan-passed n board moves found (said ∙ ap why_of e)) (room-read n board moves found enough first second)

-- ---- the cells as bytes

-- asked of so many bytes in front, each its cell's
pub of-bytes : (n : Numbers) (cells board moves found : List ℕ) (k : ℕ) {answer : Result Numbers ReadRefusal} {out : List ℕ}
    → CellsRead n.width n.height (take k cells) → length board ≡ length cells
    → ((i : ℕ) → i < length cells → get_or board i 0 ≡ clamped (get_or cells i 0))
    → ReadSettles (plan_read n (take k board) moves found) answer out → ReadSettles (plan_read n (take k cells) moves found) answer out
of-bytes n cells board moves found k {answer} {out} read long each settled =
    let is : board ≡ map clamped cells =
    ext_get_or 0 board (map clamped cells) (long ∙ sym (length-map cells clamped))
    (λ i inside. each i (omega (arith, long)) ∙ sym (at-clamped cells i)) in
    subst (λ left. ReadSettles left answer out)
    (ap (λ b. plan_read n (take k b) moves found) is
    ∙ ap (λ b. plan_read n b moves found) (take-map clamped k cells)
    ∙ sym (clamped-same n (take k cells) moves found read)) settled

-- ---- behind the numbers

said-some : (o : Option ReadRefusal) (why : ReadRefusal) → end_said o ≡ Err why → o ≡ some why
said-some none why e = cc
said-some (some other) why e = cc

said-none : (o : Option ReadRefusal) → end_said o ≡ Ok tt → o ≡ none
said-none none e = refl
said-none (some other) e = cc

module _ (bytes found : List ℕ) (n : Numbers) (cells : List ℕ) (at : ℕ) (r : Result Unit ReadRefusal)
    (tested : r ≡ end_said (first_refusal (end_tests bytes (at + n.length)))) where
  pub end_refused : (why : ReadRefusal) → r ≡ Err why → ReadSettles (end_read bytes found n cells at) (Err why) found
  unfolding leaves_read
  end_refused why e =
      let first = first_means _ why (said-some _ why (sym tested ∙ e)) in
      rw (first-given (first-front (under Plan (reading_tests n cells (moves_at bytes at n.length) found)) first))
      (record { answers = refl; leaves = refl })

  module _ (e : r ≡ Ok tt) where
    clear : NoneHolds (end_tests bytes (at + n.length))
    clear = none_means _ (said-none _ (sym tested ∙ e))

    pub end-inside : at + n.length ≤ length bytes
    end-inside = omega (arith, ltb-false (length bytes) (at + n.length + 4) (first_of clear))
      where
        first_of : NoneHolds (end_tests bytes (at + n.length)) → ltb (length bytes) (at + n.length + 4) ≡ false
        first_of passed = none_first bytes (at + n.length) passed

    pub end-passed : {answer : Result Numbers ReadRefusal} {out : List ℕ} (k : ℕ) → k ≡ n.length
        → ReadSettles (plan_read n cells (take k (drop at bytes)) found) answer out
        → ReadSettles (end_read bytes found n cells at) answer out
    end-passed {answer} {out} k is settled =
        let moves = moves_at bytes at n.length in
        subst (λ o. ReadSettles (leaves_read n cells moves found o) answer out)
        (sym (none-front (under Plan (reading_tests n cells moves found)) clear))
        (subst (λ j. ReadSettles (plan_read n cells (take j (drop at bytes)) found) answer out) is settled)

-- ---- the numbers, and then what is behind them

module _ (bytes found : List ℕ) where
  pub numbers-stop : (why : ReadRefusal) → numbers_in bytes ≡ Err why → ReadSettles (read_back bytes found) (Err why) found
  unfolding read_back
  numbers-stop why e = rw e (record { answers = refl; leaves = refl })

  pub numbers-go : {answer : Result Numbers ReadRefusal} {out : List ℕ} (n : Numbers) (cells : List ℕ) (at : ℕ)
      → numbers_in bytes ≡ begun n cells at → ReadSettles (end_read bytes found n cells at) answer out
      → ReadSettles (read_back bytes found) answer out
  unfolding read_back
  numbers-go n cells at e settled = rw e settled
