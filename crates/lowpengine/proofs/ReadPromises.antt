-- What is promised of lowpengine_read_record, of any bytes, as a C programmer has them: of the result r and of the output. `ReadGiven bytes
-- found r out` is what the entry gives for `bytes` and an output that was `found`. Of a result r % 256 is the number; of a record that was
-- read the numbers stand at their bits (`ReadsNumbers`), and of a refusal r / 256 is the place.
--     fields, settled    the result is taken apart again; any two results, the output included, that the contract allows are equal
--     refusals           exactly when, and the output stays
--     both ways          what lowpengine_write_record writes is read back to the same fields; what is read it writes to the same bytes
-- Assumes nothing.
use Rattle.std.specs.Prelude.{Result, Ok, Err}
use Prim.Native.Nat.{ℕ, ◌+◌, ◌/◌, ◌%◌, ◌≤◌, min}
use mathlib.Core.Path.{◌≡◌, refl, sym, ap, subst, ◌∙◌}
use mathlib.Core.Logic.{◌↔◌}
use mathlib.Core.List.{List, ◌++◌}
use native.Mathlib.Omega.{arith}
use lib.ListN.{length, take, drop}
use Rattle.board.specs.Lists.{Solves}
use Rattle.records.specs.declared.Numbers.{Numbers}
use Rattle.records.specs.declared.ReadRefusal.{ReadRefusal}
use Rattle.records.specs.Form.{Bytes}
use Rattle.records.specs.Record.{record_of}
use Rattle.records.specs.Write.{Given, fields_of, shape_of, written}
use Rattle.records.specs.Read.{ReadLeft, given_of, read_back}
use Rattle.records.specs.Readings.{unread_number, unread_place, reading_number}
use Rattle.records.proofs.Promises as wrote
use Rattle.records.proofs.ReadPromises as back
use Rattle.records.proofs.theory.Refusing.{Met}
use Rattle.lowpengine.specs.Packed.{farthest, reading_detail, packed_record, packed_reading}
use Rattle.lowpengine.specs.Given.{RecordGiven, ReadGiven}
use Rattle.lowpengine.proofs.theory.Sizes.{unread_some}
use Rattle.lowpengine.proofs.theory.Narrowed.{reads_narrow}
use Rattle.lowpengine.proofs.theory.Packing.{ReadsNumbers, numbers-read, reading-number-read, reading_detail_read}
use Rattle.lowpengine.proofs.Promises.{written_exactly, record_told}

-- ---- fields

-- of every answer of the record reader: its number, and the detail
pub reading-fields :
    (a : Result Numbers ReadRefusal)
    → (packed_reading a % 256 ≡ reading_number a) × (packed_reading a / 256 ≡ reading_detail a)
reading-fields a = (reading-number-read a, reading_detail_read a)

-- of every record that is read: its numbers
pub numbers-told : (bytes found : List ℕ) (n : Numbers) → (read_back bytes found).answer ≡ Ok n
    → ReadsNumbers (packed_reading (read_back bytes found).answer) n
numbers-told bytes found n is =
    subst (λ (a : Result Numbers ReadRefusal). ReadsNumbers (packed_reading a) n) (sym is) (numbers-read n (reads_narrow bytes found n is))

-- ---- settled

pub reading-settled : (bytes found : List ℕ) (r s : ℕ) (out out' : List ℕ)
    → ReadGiven bytes found r out → ReadGiven bytes found s out' → (r ≡ s) × (out ≡ out')
reading-settled bytes found r s out out' one other = (one.result ∙ sym other.result, one.out ∙ sym other.out)

-- ---- refusals

-- why bytes are not read: the first condition met, its number, and its place, which is told up to 2^56 - 1
pub record UnreadBy (bytes found : List ℕ) (k i : ℕ) : Type 0 where
  pub why : ReadRefusal
  pub first : Met bytes found why
  pub number_is : unread_number why ≡ k
  pub place_is : min (unread_place why) farthest ≡ i

module _ (bytes found : List ℕ) (r : ℕ) (out : List ℕ) (given : ReadGiven bytes found r out) where
  -- by which case the reader answers, with r's numbers, or its number and detail
  data Told : Type 0 where
    fields-of : {n : Numbers} → (read_back bytes found).answer ≡ Ok n → ReadsNumbers r n → Told
    refused_by : {why : ReadRefusal} → (read_back bytes found).answer ≡ Err why → r % 256 ≡ unread_number why
        → r / 256 ≡ min (unread_place why) farthest → Told

  told : Told
  told = go (read_back bytes found).answer refl
    where
      go : (a : Result Numbers ReadRefusal) → (read_back bytes found).answer ≡ a → Told
      go (Ok n) is = fields-of is (subst (λ x. ReadsNumbers x n) (sym given.result) (numbers-told bytes found n is))
      go (Err why) is =
          let packs = given.result ∙ ap packed_reading is in
          refused_by is (ap (λ x. x % 256) packs ∙ reading-number-read (Err why))
          (ap (λ x. x / 256) packs ∙ reading_detail_read (Err why))

  -- a refusal's number exactly when its condition is the first met, with its place
  pub unread_exactly : (k : ℕ) → 1 ≤ k → (r % 256 ≡ k) ↔ UnreadBy bytes found k (r / 256)
  unread_exactly k Some-number = (λ e. go told e, λ it. gives it)
    where
      go : Told → r % 256 ≡ k → UnreadBy bytes found k (r / 256)
      go (fields-of is reads) e = absurd (omega (arith, reads.number_read))
      go (refused_by {why} is number place) e =
          record {
            why = why;
            first = (back.read-refused_exactly bytes found why).0 is;
            number_is = sym number ∙ e;
            place_is = sym place;
          }

      gives : UnreadBy bytes found k (r / 256) → r % 256 ≡ k
      gives it =
          let is = given.result ∙ ap packed_reading ((back.read-refused_exactly bytes found it.why).1 it.first) in
          ap (λ x. x % 256) is ∙ reading-number-read (Err it.why) ∙ it.number_is

  -- a refusal leaves every byte of the output as found
  pub unread_leaves : 1 ≤ r % 256 → out ≡ found
  unread_leaves Some-number = go told
    where
      go : Told → out ≡ found
      go (fields-of is reads) = absurd (omega (arith, reads.number_read))
      go (refused_by {why} is number place) = given.out ∙ back.read-refusal-leaves bytes found why is

  -- ---- what is read, lowpengine_write_record writes

  module _ (each : Bytes bytes) (zero_number : r % 256 ≡ 0) where
    -- the numbers stand in r, cells and moves at the start of the output, and the rest of it stays; they solve the board within the
    -- ceiling; given as they are to the writer, with room for it, they come out as the same bytes
    pub record Sent : Type 0 where
      pub numbers : Numbers
      pub numbers_are : ReadsNumbers r numbers
      pub stays : out ≡ back.received (back.cells_in numbers out) (back.moves_in numbers out) found
      pub solves : let plan = given_of numbers (back.cells_in numbers out) (back.moves_in numbers out) in
          Solves (shape_of (fields_of plan)) plan.board plan.moves
      pub within : length (back.moves_in numbers out) ≤ numbers.ceiling
      pub writes : (room : List ℕ) (s : ℕ) (room' : List ℕ) → length bytes ≤ length room
          → RecordGiven (given_of numbers (back.cells_in numbers out) (back.moves_in numbers out)) room s room'
          → (s % 256 ≡ 0) × (s / 256 ≡ length bytes) × (room' ≡ bytes ++ drop (length bytes) room)

    pub read-writes : Sent
    read-writes = go told
      where
        go : Told → Sent
        go (refused_by {why} is number place) = absurd (omega (arith, unread_some why))
        go (fields-of {n} is reads) =
            let itself = (back.read-writes bytes found each n is bytes (omega arith)).0 in
            let plan = back.plan bytes found each n is in
            let same = sym given.out in
            record {
              numbers = n;
              numbers_are = reads;
              stays = subst (λ (o : List ℕ). o ≡ back.received (back.cells_in n o) (back.moves_in n o) found) same
                  (back.read_receives bytes found each n is);
              solves = subst (λ (o : List ℕ). let p = given_of n (back.cells_in n o) (back.moves_in n o) in
                  Solves (shape_of (fields_of p)) p.board p.moves) same
                  (wrote.written-solves plan bytes (length bytes) itself);
              within = subst (λ (o : List ℕ). length (back.moves_in n o) ≤ n.ceiling) same
                  (wrote.written-within plan bytes (length bytes) itself n.ceiling refl);
              writes = λ room s room' enough it.
                  let at =
                  subst (λ (o : List ℕ). RecordGiven (given_of n (back.cells_in n o) (back.moves_in n o)) room s room') given.out it in
                  let wrote_it = back.read-writes bytes found each n is room enough in
                  let few = wrote.record_at-most_149 plan room (length bytes) wrote_it.0 in
                  let packs = at.result ∙ ap packed_record wrote_it.0 in
                  (omega (arith, packs, few), omega (arith, packs, few), at.out ∙ wrote_it.1);
            }

-- ---- what lowpengine_write_record writes is read back

pub written_reads : (g : Given) (found : List ℕ) (r : ℕ) (out : List ℕ) → RecordGiven g found r out → r % 256 ≡ 0
    → (room : List ℕ) (s : ℕ) (room' : List ℕ) → length g.board + length g.moves ≤ length room
    → ReadGiven (take (r / 256) out) room s room'
    → ReadsNumbers s (back.numbers_for g) × (room' ≡ back.received g.board g.moves room)
written_reads g found r out wrote_it zero_number room s room' enough read-it =
    let k = length (record_of (fields_of g)) in
    let is : (written g found).answer ≡ Ok k =
    (wrote.else_written g found k).1 ((written_exactly g found r out wrote_it).0 zero_number, refl) in
    let long : r / 256 ≡ k = (record_told g found r out wrote_it zero_number).length-is in
    let same : take (r / 256) out ≡ take k (written g found).out =
    ap (λ (n : ℕ). take n out) long ∙ ap (take k) wrote_it.out in
    let read = ap (λ (bytes : List ℕ). read_back bytes room) same ∙ back.written_reads g found k is room enough in (
      subst (λ (x : ℕ). ReadsNumbers x (back.numbers_for g)) (sym read-it.result)
          (numbers-told (take (r / 256) out) room (back.numbers_for g) (ap (λ (l : ReadLeft). l.answer) read)),
      read-it.out ∙ ap (λ (l : ReadLeft). l.out) read,
    )
