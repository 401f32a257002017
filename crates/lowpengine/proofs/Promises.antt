-- What is promised of the entries, of any inputs, as a C programmer has them: of the result r and of the lent bytes. `PlanGiven c r moves'
-- table'` is what lowpengine_plan gives for the inputs c, and for c a `called_short` what lowpengine_plan_short gives; `PlayGiven` is the
-- player's and `RecordGiven` the record writer's. Of a plan's result r % 256 is the number, r / 256 % 256 the cell, r / 65536 % 65536 the
-- length and r / 2^32 the visits.
--     fields, settled    the result is taken apart again; any two results, lent bytes included, that a contract allows are equal
--     table, moves       low byte first; nothing that stood in them matters; which bytes are changed, and that all others stay
--     A, B1, B2, B3      the customer's conditions, in their order
--     E1                 the record of a plan: r % 256 is the number, r / 256 the record's length, or a refusal's cell or place
--     E6                 the reachability test, `r ≡ packed_reach width height b`: r % 256 is the number, r / 256 the cell
--     E7                 the short call: what it promises of a plan's length
-- Assumes nothing.
use Rattle.std.specs.Prelude.{Result, Ok, Err}
use Prim.Native.Nat.{ℕ, ◌+◌, ◌*◌, ◌/◌, ◌%◌, ◌^◌, ◌≤◌, ◌<◌, min}
use mathlib.Core.Path.{◌≡◌, refl, sym, ap, subst, ◌∙◌}
use mathlib.Core.Logic.{◌↔◌, ◌⊎◌, inl, inr}
use mathlib.Core.Bool.{Bool, true, false, cond}
use mathlib.Core.List.{List, [], ◌∷◌, ◌++◌}
use native.Mathlib.Omega.{arith}
use lib.IntN.{ℤ, pos, negsuc}
use lib.ListN.{length, take, drop, replicate}
use lib.Seq.{drop_at}
use Rattle.board.specs.declared.Shape.{Shape}
use Rattle.board.specs.declared.Fault.{Fault}
use Rattle.board.specs.Lists.{Solves}
use Rattle.board.specs.Tests.{FirstToHold, NoneHolds}
use Rattle.board.specs.Faults.{tested, fault_tests, fault_number, fault_cell}
use Rattle.board.specs.Parity.{is_odd}
use Rattle.board.proofs.Laws.{faulty_means, faulty-given, none-faulty, board-of, faultless-sound, odd-never_solved}
use Rattle.search.specs.Run.{rows_for}
use Rattle.planner.specs.declared.Refusal.{Refusal}
use Rattle.planner.specs.declared.Refusal.TheVariants.{NoPlan, OutOfVisits}
use Rattle.planner.specs.Answer.{Answer}
use Rattle.planner.specs.Limits.{ceiling_of, limit_tests}
use Rattle.planner.specs.Answer.{called, short_buffer}
use Rattle.planner.specs.Short.{called_short}
use Rattle.planner.specs.Answer.{Call, shape_of, tests, answered, refusal_number, refusal_cell, TestNumber, LateNumber, SearchNumber}
use Rattle.planner.specs.Answer.{number, cell, plan_length, visits, search_ran}
use Rattle.planner.proofs.Promises as plan
use Rattle.planner.proofs.theory.Kept.{Returned, OutOf}
use Rattle.planner.proofs.theory.OddBoards.{OddAlone}
use Rattle.planner.proofs.theory.Numbers.{IsPlan, plan_by_number, no_plan_by_number, spent_by_number}
use Rattle.planner.proofs.theory.Numbers.{odd_by_number, not-lowest_by_number, by_test, by_search}
use Rattle.planner.proofs.theory.Ways.{apart, Way, refused, ran, way}
use Rattle.planner.proofs.theory.Lowest.{PastSeven}
use Rattle.planner.proofs.theory.Lending.{lending, by_length}
use Rattle.player.specs.declared.PlayRefusal.{PlayRefusal}
use Rattle.player.specs.Play.{Played}
use Rattle.player.specs.Answers.{answer_number, refusal_place}
use Rattle.player.proofs.Laws.{settled}
use Rattle.records.specs.declared.PlanRefusal.{PlanRefusal}
use Rattle.records.specs.Answers.{answer_number as written_number, refusal_number as unwritten_number, refusal_place as unwritten_place}
use Rattle.records.specs.Record.{record_of}
use Rattle.records.specs.Write.{Given, fields_of, write_tests, written}
use Rattle.records.specs.Write.{shape_of as shape_of_fields}
use Rattle.records.proofs.Promises as wrote
use Rattle.lowpengine.specs.Bytes.{AllBytes, numbers, bytes_of, odd_byte, numbers_used}
use Rattle.lowpengine.specs.Packed.{packed_plan, farthest, play_detail, packed_play, record_detail, packed_record}
use Rattle.lowpengine.specs.Packed.{packed_fault, reach_after, packed_reach}
use Rattle.lowpengine.specs.Given.{in_numbers, PlanGiven, PlayGiven, RecordGiven}
use Rattle.lowpengine.proofs.theory.Pairs.{count, back-to-bytes, cleared-bytes}
use Rattle.lowpengine.proofs.theory.Used.{Used, used}
use Rattle.lowpengine.proofs.theory.Sizes.{unwritten_some, fault-number, fault-some}
use Rattle.lowpengine.proofs.theory.Packing.{Reads, answer_reads, play_number-read, play_detail_read}
use Rattle.lowpengine.proofs.theory.Packing.{record_number-read, record_detail_read}
use Rattle.lowpengine.proofs.theory.Places.{record_place}

-- ---- fields

-- of every answer that the planner gives: number, cell, length and visits
pub plan-fields : (c : Call) → let a = (answered c).answer in Reads (packed_plan a) (number a) (cell a) (plan_length a) (visits a)
plan-fields = answer_reads

-- of every answer of the player: its number, and the detail
pub play_fields : (a : Played) → (packed_play a % 256 ≡ answer_number a) × (packed_play a / 256 ≡ play_detail a)
play_fields a = (play_number-read a, play_detail_read a)

-- the detail is 1 exactly if the list that was played ends at the goal, and the cell or place of a refusal
pub goal-told : (goal : Bool) → packed_play (Ok goal) / 256 ≡ cond goal 1 0
goal-told goal = play_detail_read (Ok goal)

pub place-told : (why : PlayRefusal) → refusal_place why < farthest → packed_play (Err why) / 256 ≡ refusal_place why
place-told why near = play_detail_read (Err why) ∙ omega arith

-- of every answer of the record writer: its number, and the detail
pub record_fields : (a : Result ℕ PlanRefusal) → (packed_record a % 256 ≡ written_number a) × (packed_record a / 256 ≡ record_detail a)
record_fields a = (record_number-read a, record_detail_read a)

-- ---- settled

pub plan-settled : (c : Call) (r s : ℕ) (moves table moves' table' : List ℕ) → PlanGiven c r moves table → PlanGiven c s moves' table'
    → (r ≡ s) × (moves ≡ moves') × (table ≡ table')
plan-settled c r s moves table moves' table' one other =
    (one.answer ∙ sym other.answer, one.moves ∙ sym other.moves, one.table ∙ sym other.table)

pub play_settled : (width height : ℕ) (b moves found : List ℕ) (r s : ℕ) (out out' : List ℕ)
    → PlayGiven width height b moves found r out → PlayGiven width height b moves found s out' → (r ≡ s) × (out ≡ out')
play_settled width height b moves found r s out out' one other =
    let same = settled width height b moves found one.answer other.answer out out' one.played other.played in
    (one.result ∙ ap packed_play same.0 ∙ sym other.result, same.1)

pub record_settled : (g : Given) (found : List ℕ) (r s : ℕ) (out out' : List ℕ)
    → RecordGiven g found r out → RecordGiven g found s out' → (r ≡ s) × (out ≡ out')
record_settled g found r s out out' one other = (one.result ∙ sym other.result, one.out ∙ sym other.out)

-- ---- table

-- low byte first
pub low_byte_first : (numbers (1 ∷ 0 ∷ 0 ∷ 1 ∷ 7 ∷ []) ≡ 1 ∷ 256 ∷ []) × (bytes_of (1 ∷ 256 ∷ []) ≡ 1 ∷ 0 ∷ 0 ∷ 1 ∷ [])
    × (odd_byte (1 ∷ 0 ∷ 0 ∷ 1 ∷ 7 ∷ []) ≡ 7 ∷ [])
unfolding numbers bytes_of odd_byte
low_byte_first = (refl, refl, refl)

-- the bytes of the table's numbers, and the odd byte, are the table's bytes
pub bytes_whole : (t : List ℕ) → AllBytes t → bytes_of (numbers t) ++ odd_byte t ≡ t
bytes_whole = back-to-bytes

-- calls that differ only in what stands in buffers of the same lengths get the same result; of a plan the same moves stand at the start
-- of the move bytes, and the others are as they were lent
pub record SameMoves (r : ℕ) (moves' lent moves'' : List ℕ) : Type 0 where
  pub told : moves'' ≡ take (r / 65536 % 65536) moves' ++ drop (r / 65536 % 65536) lent

pub buffers-never_matter : (c : Call) (moves table : List ℕ) (r s : ℕ) (moves' table' moves'' table'' : List ℕ)
    → length moves ≡ length c.moves → length table ≡ length c.table
    → PlanGiven c r moves' table' → PlanGiven (lending c moves table) s moves'' table'' → (r ≡ s) × SameMoves r moves' moves moves''
buffers-never_matter c moves table r s moves' table' moves'' table'' short long one other =
    let same = by_length (in_numbers c) moves (numbers table) short (omega (arith, count c.table, count table)) in
    let long-is = plan_length (answered (in_numbers c)).answer in
    let length-is = ap (λ x. x / 65536 % 65536) one.answer ∙ (answer_reads (in_numbers c)).length-read in (
      one.answer ∙ sym (other.answer ∙ ap packed_plan same.answer),
      record {
        told =
            other.moves
            ∙ same.moves_are
            ∙ ap (λ l. take long-is l ++ drop long-is moves) (sym one.moves)
            ∙ ap (λ k. take k moves' ++ drop k moves) (sym length-is);
      },
    )

-- what a call that was refused by a test was refused by: the first test that holds, its number and its cell
pub record RefusedBy (c : Call) (k i : ℕ) : Type 0 where
  pub why : Refusal
  pub first : FirstToHold (tests c) why
  pub number_is : refusal_number why ≡ k
  pub cell-is : refusal_cell why ≡ i

-- the move bytes afterwards hold a plan of L moves: it solves the board, is within the ceiling, and the bytes past it are as found
pub record PlanTold (c : Call) (moves' : List ℕ) (L : ℕ) : Type 0 where
  pub solves : Solves (shape_of c) c.board (take L moves')
  pub within : L ≤ ceiling_of c.ceiling
  pub rest : drop L moves' ≡ drop L c.moves

module _ (c : Call) (bytes : AllBytes c.table) (r : ℕ) (moves' table' : List ℕ) (given : PlanGiven c r moves' table') where
  -- the answer that r packs, and its fields
  answer : Answer
  answer = (answered (in_numbers c)).answer

  fields : Reads r (number answer) (cell answer) (plan_length answer) (visits answer)
  unfolding answer
  fields =
      subst (λ x. Reads x (number answer) (cell answer) (plan_length answer) (visits answer)) (sym given.answer)
      (answer_reads (in_numbers c))

  -- ---- A

  -- with a ceiling below zero the number is 5 or an earlier refusal's
  pub below_zero : (n : ℕ) → c.ceiling ≡ negsuc n → (1 ≤ r % 256) × (r % 256 ≤ 5)
  unfolding answer
  below_zero n e = let it = plan.below_zero (in_numbers c) n e in (omega (arith, fields.number_read), omega (arith, fields.number_read))

  -- ---- B1: which result is given

  -- 1 to 9 and 15 exactly when that test holds and no earlier one does, with its cell
  pub refused_exactly : (k : ℕ) → TestNumber k → (r % 256 ≡ k) ↔ RefusedBy (in_numbers c) k (r / 256 % 256)
  unfolding answer
  refused_exactly k early = (λ e. go (way (in_numbers c)) (sym fields.number_read ∙ e), λ it. gives it)
    where
      go : Way (in_numbers c) → number answer ≡ k → RefusedBy (in_numbers c) k (r / 256 % 256)
      go (refused {why} first w) e =
          let is : answer ≡ Err why = ap (λ l. l.answer) w in
          record {
            why = why;
            first = first;
            number_is = sym (ap number is) ∙ e;
            cell-is = sym (ap cell is) ∙ sym fields.cell-read;
          }
      go (ran passed o run w) e =
          absurd (apart early (subst SearchNumber e (plan.else_a_search (in_numbers c) passed)))

      gives : RefusedBy (in_numbers c) k (r / 256 % 256) → r % 256 ≡ k
      gives it =
          let why-early = subst TestNumber (sym it.number_is) early in
          fields.number_read ∙ ap number ((plan.refused_exactly (in_numbers c) it.why why-early).1 it.first) ∙ it.number_is

  -- 10 exactly when no test holds and the search returns infinity, 11 exactly when none holds and it is spent; with its visits
  pub no_plan_exactly : (r % 256 ≡ 10) ↔ Returned (in_numbers c) (r / 2 ^ 32)
  unfolding answer
  no_plan_exactly = (given-then, λ it. fields.number_read ∙ ap number ((plan.no_plan_exactly (in_numbers c) (r / 2 ^ 32)).1 it))
    where
      given-then : r % 256 ≡ 10 → Returned (in_numbers c) (r / 2 ^ 32)
      given-then e =
          let it = no_plan_by_number answer (sym fields.number_read ∙ e) in
          let count = sym (ap visits it.is) ∙ sym fields.visits-read in
          (plan.no_plan_exactly (in_numbers c) (r / 2 ^ 32)).0 (it.is ∙ ap (λ v. Err (NoPlan v)) count)

  pub out-of-visits_exactly : (r % 256 ≡ 11) ↔ OutOf (in_numbers c) (r / 2 ^ 32)
  unfolding answer
  out-of-visits_exactly = (given-then, λ it. fields.number_read ∙ ap number ((plan.out-of-visits_exactly (in_numbers c) (r / 2 ^ 32)).1 it))
    where
      given-then : r % 256 ≡ 11 → OutOf (in_numbers c) (r / 2 ^ 32)
      given-then e =
          let it = spent_by_number answer (sym fields.number_read ∙ e) in
          let count = sym (ap visits it.is) ∙ sym fields.visits-read in
          (plan.out-of-visits_exactly (in_numbers c) (r / 2 ^ 32)).0 (it.is ∙ ap (λ v. Err (OutOfVisits v)) count)

  -- no result has another number: 0, or one of the twelve refusals 1 to 11 and 15
  pub no_other-number : TestNumber (r % 256) ⊎ SearchNumber (r % 256)
  unfolding answer
  no_other-number =
      subst (λ (k : ℕ). TestNumber k ⊎ SearchNumber k) (sym fields.number_read) (plan.no_other-number (in_numbers c))

  -- 15 exactly when none of 1 to 7 holds and some number above 1 divides both p and q
  pub not-lowest_exactly : (r % 256 ≡ 15) ↔ PastSeven (in_numbers c)
  unfolding answer
  not-lowest_exactly = (given-then, λ it. fields.number_read ∙ ap number ((plan.not-lowest_exactly (in_numbers c)).1 it))
    where
      given-then : r % 256 ≡ 15 → PastSeven (in_numbers c)
      given-then e = (plan.not-lowest_exactly (in_numbers c)).0 (not-lowest_by_number answer (sym fields.number_read ∙ e))

  -- ---- B1: the lent bytes

  -- the bytes afterwards, by how many numbers the answer leaves cleared
  bytes_left : (k : ℕ) → numbers_used (search_ran answer) c.ceiling ≡ k → table' ≡ replicate (2 * k) 0 ++ drop (2 * k) c.table
  unfolding answer
  bytes_left k is =
      let left : Used (in_numbers c) k = subst (Used (in_numbers c)) is (used (in_numbers c)) in
      given.table ∙ ap (λ l. bytes_of l ++ odd_byte c.table) left.left ∙ cleared-bytes k c.table bytes left.within

  -- refusals 1 to 9 and 15 leave every lent byte as found
  pub early_refusals_leave : TestNumber (r % 256) → (moves' ≡ c.moves) × (table' ≡ c.table)
  unfolding answer
  early_refusals_leave early =
      let by : TestNumber (number answer) = subst TestNumber fields.number_read early in
      let none-used = ap (λ b. numbers_used b c.ceiling) (by_test answer by) in
      (given.moves ∙ (plan.early_refusals_touch_nothing (in_numbers c) by).0, bytes_left 0 none-used)

  -- 10 and 11 leave the moves as found
  pub late_refusals_leave : LateNumber (r % 256) → moves' ≡ c.moves
  unfolding answer
  late_refusals_leave late = given.moves ∙ (plan.late_refusals_clear (in_numbers c) (subst LateNumber fields.number_read late)).0

  -- a plan, 10 and 11 leave zeros in the first 8 × (ceiling + 1) bytes of the table, and every other byte as found
  pub search-clears : SearchNumber (r % 256)
      → table' ≡ replicate (8 * (ceiling_of c.ceiling + 1)) 0 ++ drop (8 * (ceiling_of c.ceiling + 1)) c.table
  search-clears ended =
      let ran = by_search answer (subst SearchNumber fields.number_read ended) in
      bytes_left (rows_for (ceiling_of c.ceiling)) (ap (λ b. numbers_used b c.ceiling) ran)
      ∙ ap (λ n. replicate n 0 ++ drop n c.table) eightfold
    where
      eightfold : 2 * rows_for (ceiling_of c.ceiling) ≡ 8 * (ceiling_of c.ceiling + 1)
      eightfold = omega arith

  -- ---- B2 and B3, of a plan

  module _ (zero_number : r % 256 ≡ 0) where
    planned : IsPlan answer
    planned = plan_by_number answer (sym fields.number_read ∙ zero_number)

    length-is : r / 65536 % 65536 ≡ planned.plan.length
    length-is = fields.length-read ∙ ap plan_length planned.is

    pub plan-told : PlanTold c moves' (r / 65536 % 65536)
    unfolding answer
    plan-told =
        subst (PlanTold c moves') (sym length-is)
        (subst (λ ms. PlanTold c ms planned.plan.length) (sym given.moves)
        (record {
          solves = plan.plan-solves (in_numbers c) planned.plan planned.is;
          within = plan.plan-within-ceiling (in_numbers c) planned.plan planned.is;
          rest = plan.plan-fills (in_numbers c) planned.plan planned.is;
        }))

    -- q times the length is at most p times that of any legal list to the goal
    pub plan-near : (ds : List ℕ) → Solves (shape_of c) c.board ds → c.q * (r / 65536 % 65536) ≤ c.p * length ds
    unfolding answer
    plan-near ds v = rw length-is (plan.plan-near (in_numbers c) planned.plan planned.is ds v)

    -- at p = q none is shorter
    pub plan-shortest : c.p ≡ c.q → (ds : List ℕ) → Solves (shape_of c) c.board ds → r / 65536 % 65536 ≤ length ds
    unfolding answer
    plan-shortest e ds v = rw length-is (plan.plan-shortest (in_numbers c) planned.plan planned.is e ds v)

  -- ---- B3, of refusals 10 and 9

  -- 10: no legal list of at most `ceiling` moves leads to the goal
  pub no_plan-within : r % 256 ≡ 10 → (ds : List ℕ) → Solves (shape_of c) c.board ds → ceiling_of c.ceiling < length ds
  unfolding answer
  no_plan-within e =
      let it = no_plan_by_number answer (sym fields.number_read ∙ e) in
      plan.no_plan-within (in_numbers c) it.count it.is

  -- 9: none of any length does
  pub odd-board-never : r % 256 ≡ 9 → (ds : List ℕ) → Solves (shape_of c) c.board ds → ⊥
  unfolding answer
  odd-board-never e = plan.odd-board-never (in_numbers c) (odd_by_number answer (sym fields.number_read ∙ e))

-- ---- E1: the record of a plan

-- what a call of the record writer was refused by: the first condition that holds, its number, and its cell or place
pub record UnwrittenBy (g : Given) (found : List ℕ) (k i : ℕ) : Type 0 where
  pub why : PlanRefusal
  pub first : FirstToHold (write_tests g found) why
  pub number_is : unwritten_number why ≡ k
  pub place_is : unwritten_place why ≡ i

-- a record of L bytes was written: it is at the start of the output, and the bytes past it are as found; it has at most 149 bytes, and its
-- list solves the board within the ceiling, which was given as a number of moves
pub record RecordTold (g : Given) (found out : List ℕ) (L : ℕ) : Type 0 where
  pub length-is : L ≡ length (record_of (fields_of g))
  pub most : L ≤ 149
  pub front : take L out ≡ record_of (fields_of g)
  pub rest : drop L out ≡ drop L found
  pub solves : Solves (shape_of_fields (fields_of g)) g.board g.moves
  pub within : (ceiling : ℕ) → g.ceiling ≡ pos ceiling → length g.moves ≤ ceiling

module _ (g : Given) (found : List ℕ) (r : ℕ) (out : List ℕ) (given : RecordGiven g found r out) where
  -- by which case the writer answers, with r's number and detail
  data Told : Type 0 where
    is_record : {k : ℕ} → (written g found).answer ≡ Ok k → r % 256 ≡ 0 → r / 256 ≡ min k farthest → Told
    refused_by : {why : PlanRefusal} → (written g found).answer ≡ Err why → r % 256 ≡ unwritten_number why
        → r / 256 ≡ min (unwritten_place why) farthest → Told

  told : Told
  told = go (written g found).answer refl
    where
      go : (a : Result ℕ PlanRefusal) → (written g found).answer ≡ a → Told
      go (Ok k) is =
          let packs = given.result ∙ ap packed_record is in
          is_record is (ap (λ x. x % 256) packs ∙ record_number-read (Ok k)) (ap (λ x. x / 256) packs ∙ record_detail_read (Ok k))
      go (Err why) is =
          let packs = given.result ∙ ap packed_record is in
          refused_by is (ap (λ x. x % 256) packs ∙ record_number-read (Err why))
          (ap (λ x. x / 256) packs ∙ record_detail_read (Err why))

  -- a refusal's number exactly when its condition is the first that holds, with its place
  pub unwritten_exactly : (k : ℕ) → 1 ≤ k → (r % 256 ≡ k) ↔ UnwrittenBy g found k (r / 256)
  unwritten_exactly k Some-number = (λ e. go told e, λ it. gives it)
    where
      go : Told → r % 256 ≡ k → UnwrittenBy g found k (r / 256)
      go (is_record is zero_number detail) e = absurd (omega arith)
      go (refused_by {why} is number detail) e =
          let first = (wrote.refused_exactly g found why).0 is in
          record {
            why = why;
            first = first;
            number_is = sym number ∙ e;
            place_is = omega (arith, record_place g found why first);
          }

      gives : UnwrittenBy g found k (r / 256) → r % 256 ≡ k
      gives it =
          let is = given.result ∙ ap packed_record ((wrote.refused_exactly g found it.why).1 it.first) in
          ap (λ x. x % 256) is ∙ record_number-read (Err it.why) ∙ it.number_is

  -- a refusal leaves every byte of the output as found
  pub unwritten_leaves : 1 ≤ r % 256 → out ≡ found
  unwritten_leaves Some-number = go told
    where
      go : Told → out ≡ found
      go (is_record is zero_number detail) = absurd (omega arith)
      go (refused_by {why} is number detail) = given.out ∙ wrote.refusal-leaves g found why is

  -- 0 exactly when no condition holds
  pub written_exactly : (r % 256 ≡ 0) ↔ NoneHolds (write_tests g found)
  written_exactly = (λ e. go told e, gives)
    where
      go : Told → r % 256 ≡ 0 → NoneHolds (write_tests g found)
      go (is_record {k} is zero_number detail) e = ((wrote.else_written g found k).0 is).0
      go (refused_by {why} is number detail) e = absurd (omega (arith, unwritten_some why))

      gives : NoneHolds (write_tests g found) → r % 256 ≡ 0
      gives none =
          let is = given.result ∙ ap packed_record ((wrote.else_written g found (length (record_of (fields_of g)))).1 (none, refl)) in
          ap (λ x. x % 256) is ∙ record_number-read (Ok (length (record_of (fields_of g))))

  -- and then the record is told
  pub record_told : r % 256 ≡ 0 → RecordTold g found out (r / 256)
  record_told e = go told
    where
      go : Told → RecordTold g found out (r / 256)
      go (refused_by {why} is number detail) = absurd (omega (arith, unwritten_some why))
      go (is_record {k} is zero_number detail) =
          let few = wrote.record_at-most_149 g found k is in
          let exact : r / 256 ≡ k = omega arith in
          let long = ((wrote.else_written g found k).0 is).1 in
          subst (RecordTold g found out) (sym exact)
          (subst (λ o. RecordTold g found o k) (sym given.out)
          (record {
            length-is = long;
            most = few;
            front = wrote.record_in_front g found k is;
            rest = ap (drop k) (wrote.record_begins g found k is) ∙ drop_at (record_of (fields_of g)) (drop k found) k (sym long);
            solves = wrote.written-solves g found k is;
            within = wrote.written-within g found k is;
          }))

-- ---- E6: the reachability test

-- what tests 1 to 4 refused a width, a height and a board by: the first that holds, its number and its cell
pub record FaultyBy (width height : ℕ) (b : List ℕ) (k i : ℕ) : Type 0 where
  pub fault : Fault
  pub first : FirstToHold (fault_tests width height b) fault
  pub number_is : fault_number fault ≡ k
  pub cell-is : fault_cell fault ≡ i

module _ (width height : ℕ) (b : List ℕ) (r : ℕ) (given : r ≡ packed_reach width height b) where
  abbrev shape : Shape
  shape = record { width = width; height = height }

  -- what is given for a fault, and for a board
  of-fault : {f : Fault} → FirstToHold (fault_tests width height b) f → r ≡ packed_fault f
  unfolding reach_after
  of-fault {f} first = given ∙ ap (λ (t : Result Shape Fault). reach_after t b) (faulty-given width height b f first)

  of-board : NoneHolds (fault_tests width height b) → (odd : Bool) → is_odd shape b ≡ odd → r ≡ cond odd 9 0
  unfolding reach_after
  of-board none odd is =
      let good = board-of width height b none in
      given
      ∙ ap (λ (t : Result Shape Fault). reach_after t b) (faultless-sound shape b good.0 good.1)
      ∙ ap (λ (t : Bool). cond t 9 0) is

  -- by which case the test answers
  data Said : Type 0 where
    faulty : {f : Fault} → FirstToHold (fault_tests width height b) f → r ≡ packed_fault f → Said
    odd : NoneHolds (fault_tests width height b) → is_odd shape b ≡ true → r ≡ 9 → Said
    even : NoneHolds (fault_tests width height b) → is_odd shape b ≡ false → r ≡ 0 → Said

  said : Said
  said = go (tested width height b) refl
    where
      parity : NoneHolds (fault_tests width height b) → (t : Bool) → is_odd shape b ≡ t → Said
      parity none true is = odd none is (of-board none true is)
      parity none false is = even none is (of-board none false is)

      go : (t : Result Shape Fault) → tested width height b ≡ t → Said
      go (Err f) is = let first = faulty_means width height b f is in faulty first (of-fault first)
      go (Ok s) is = parity (none-faulty width height b s is) (is_odd shape b) refl

  -- 1 to 4 exactly when that test holds and no earlier one does, with its cell
  pub reach_refused_exactly : (k : ℕ) → 1 ≤ k → k ≤ 4 → (r % 256 ≡ k) ↔ FaultyBy width height b k (r / 256)
  reach_refused_exactly k low high = (λ e. go said e, gives)
    where
      go : Said → r % 256 ≡ k → FaultyBy width height b k (r / 256)
      go (faulty {f} first packs) e = record {
        fault = f;
        first = first;
        number_is = omega (arith, fault-number f);
        cell-is = omega (arith, fault-number f);
      }
      go (odd none is nine) e = absurd (omega arith)
      go (even none is zero_number) e = absurd (omega arith)

      gives : FaultyBy width height b k (r / 256) → r % 256 ≡ k
      gives it = omega (arith, of-fault it.first, fault-number it.fault, it.number_is)

  -- 9 exactly when none of them holds and the parity is odd; 0 exactly when none holds and it is not; there is no other number
  pub reach_odd_exactly : (r % 256 ≡ 9) ↔ (NoneHolds (fault_tests width height b) × (is_odd shape b ≡ true))
  reach_odd_exactly = (λ e. go said e, gives)
    where
      go : Said → r % 256 ≡ 9 → NoneHolds (fault_tests width height b) × (is_odd shape b ≡ true)
      go (faulty {f} first packs) e = absurd (omega (arith, fault-number f))
      go (odd none is nine) e = (none, is)
      go (even none is zero_number) e = absurd (omega arith)

      gives : NoneHolds (fault_tests width height b) × (is_odd shape b ≡ true) → r % 256 ≡ 9
      gives it = let nine : r ≡ 9 = of-board it.0 true it.1 in omega arith

  pub reach_zero_exactly : (r % 256 ≡ 0) ↔ (NoneHolds (fault_tests width height b) × (is_odd shape b ≡ false))
  reach_zero_exactly = (λ e. go said e, gives)
    where
      go : Said → r % 256 ≡ 0 → NoneHolds (fault_tests width height b) × (is_odd shape b ≡ false)
      go (faulty {f} first packs) e = absurd (omega (arith, fault-number f, fault-some f))
      go (odd none is nine) e = absurd (omega arith)
      go (even none is zero_number) e = (none, is)

      gives : NoneHolds (fault_tests width height b) × (is_odd shape b ≡ false) → r % 256 ≡ 0
      gives it = let zero_number : r ≡ 0 = of-board it.0 false it.1 in omega arith

  pub reach_numbers : (r % 256 ≤ 4) ⊎ (r % 256 ≡ 9)
  reach_numbers = go said
    where
      go : Said → (r % 256 ≤ 4) ⊎ (r % 256 ≡ 9)
      go (faulty {f} first packs) = inl (omega (arith, fault-number f))
      go (odd none is nine) = inr (omega arith)
      go (even none is zero_number) = inl (omega arith)

  -- with 9 no legal list of any length leads to the goal
  pub reach_odd-never : r % 256 ≡ 9 → (ds : List ℕ) → Solves shape b ds → ⊥
  reach_odd-never e =
      let it = reach_odd_exactly.0 e in
      let good = board-of width height b it.0 in
      odd-never_solved shape b good.0 good.1 it.1

-- the same board given to the planner's entry, with any ceiling, budget, weight and buffers; s is what that entry answers
module _
    (width height : ℕ) (b : List ℕ)
    (ceiling : ℤ) (budget p q : ℕ) (moves table : List ℕ)
    (r s : ℕ) (moves' table' : List ℕ)
    (given : r ≡ packed_reach width height b)
    (planned : PlanGiven (called width height b ceiling budget p q moves table) s moves' table') where
  abbrev call : Call
  call = in_numbers (called width height b ceiling budget p q moves table)

  nine-planned : (s % 256 ≡ 9) ↔ OddAlone call
  nine-planned =
      let is : s % 256 ≡ number (answered call).answer = ap (λ x. x % 256) planned.answer ∙ (answer_reads call).number_read in
      (λ e. (plan.odd-board_exactly call).0 (sym is ∙ e), λ it. is ∙ (plan.odd-board_exactly call).1 it)

  -- where the planner gives 9 the test does
  pub planned-odd_reach : s % 256 ≡ 9 → r % 256 ≡ 9
  planned-odd_reach e = let it = nine-planned.0 e in (reach_odd_exactly width height b r given).1 (it.board_ok, it.odd)

  -- so with 0 the planner never gives 9
  pub reach_zero_never_9 : r % 256 ≡ 0 → s % 256 ≡ 9 → ⊥
  reach_zero_never_9 zero_number e = let nine = planned-odd_reach e in omega arith

  -- and where tests 5 to 8 and 15 pass the planner gives 9 exactly where the test does
  pub reach_as_planned :
      NoneHolds (limit_tests ceiling budget p q)
      → short_buffer (ceiling_of ceiling) (length moves) (length (numbers table)) ≡ false
      → (r % 256 ≡ 9) ↔ (s % 256 ≡ 9)
  reach_as_planned kept room = (gives, planned-odd_reach)
    where
      gives : r % 256 ≡ 9 → s % 256 ≡ 9
      gives e =
          let it = (reach_odd_exactly width height b r given).0 e in
          nine-planned.1 (record { board_ok = it.0; limits_ok = kept; buffers_ok = room; odd = it.1 })

-- ---- E7: the short call

-- twice the plan's length is at most three times that of any legal list to the goal
module _ (width height : ℕ) (b : List ℕ) (ceiling : ℤ) (budget : ℕ) (moves table : List ℕ) (bytes : AllBytes table) where
  abbrev shortly : Call
  shortly = called_short width height b ceiling budget moves table

  pub short-near :
      (r : ℕ) (moves' table' : List ℕ)
      → PlanGiven shortly r moves' table'
      → r % 256 ≡ 0
      → (ds : List ℕ)
      → Solves (shape_of shortly) b ds
      → 2 * (r / 65536 % 65536) ≤ 3 * length ds
  short-near r moves' table' given = plan-near shortly bytes r moves' table' given
