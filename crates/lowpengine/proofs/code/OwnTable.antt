-- The planner's call on a table of the entry's own: its answer and its moves are those for the numbers of the caller's table; and what is
-- left of the caller's bytes once the numbers that were used are cleared. Assumes nothing.
use Prim.Native.Nat.{ℕ, ◌*◌, ◌/◌, ◌≤◌, min}
use mathlib.Core.Path.{◌≡◌, refl, sym, ap, subst, ◌∙◌}
use mathlib.Core.Bool.{Bool, true, false, ◌||◌}
use mathlib.Core.List.{List, ◌++◌}
use native.Mathlib.Omega.{arith}
use lib.Dec.{ltb}
use lib.IntN.{ℤ}
use lib.ListN.{length, take, drop, replicate}
use lib.Seq.{length-take-le}
use borrow.Author.Tests.{ltb-true, ltb-false, lt-ltb, le-ltb}
use Rattle.planner.specs.Answer.{Answer}
use Rattle.search.specs.Run.{rows_for}
use Rattle.planner.specs.Limits.{bad_ceiling, ceiling_of}
use Rattle.planner.specs.Answer.{Call, short_buffer, answered, called, Settles, number, cell, plan_length, search_ran}
use Rattle.planner.proofs.theory.Passing.{ceiling-passes}
use Rattle.planner.proofs.theory.Small.{answered-small}
use Rattle.planner.proofs.theory.Lending.{SameRoom, by_test_8, same-moves}
use Rattle.lowpengine.specs.Bytes.{AllBytes, numbers, bytes_of, odd_byte, numbers_used}
use Rattle.lowpengine.specs.Packed.{Apart, packed_plan}
use Rattle.lowpengine.specs.Given.{PlanGiven}
use Rattle.lowpengine.proofs.theory.Pairs.{count, cleared-bytes}
use Rattle.lowpengine.proofs.theory.Used.{Used, used}

-- ---- the answer

-- no search uses more than 484 numbers, so that a longer table is as good
capped : (n rows : ℕ) → rows ≤ 484 → ltb n rows ≡ ltb (min n 484) rows
capped n rows most = go (ltb n rows) refl
  where
    go : (t : Bool) → ltb n rows ≡ t → t ≡ ltb (min n 484) rows
    go true e = sym (lt-ltb (min n 484) rows (omega (arith, ltb-true n rows e)))
    go false e = sym (le-ltb (min n 484) rows (omega (arith, ltb-false n rows e)))

same-room : (c : Call) (n : ℕ) (t : List ℕ) → bad_ceiling c.ceiling ≡ false → length c.table ≡ n → length t ≡ min n 484
    → SameRoom c c.moves t
unfolding short_buffer
same-room c n t taken long lent =
    let most = ceiling-passes c.ceiling taken in
    let rows = rows_for (ceiling_of c.ceiling) in
    ap (λ b. ltb (length c.moves) (ceiling_of c.ceiling) || b)
    (ap (λ k. ltb k rows) (lent ∙ sym (ap (λ k. min k 484) long)) ∙ sym (capped (length c.table) rows (omega arith)))

-- the answer and the moves of a call
pub record Answered (c : Call) (r : Answer) (moves' : List ℕ) : Type 0 where
  pub answer : r ≡ (answered c).answer
  pub moves : moves' ≡ (answered c).moves

-- the call with the first `lent` numbers of the own table, the ceiling handed on
pub by_own-table : (w h : ℕ) (b : List ℕ) (z y : ℤ) (budget p q : ℕ) (moves t own : List ℕ) (lent : ℕ) (r : Answer) (moves' own' : List ℕ)
    → y ≡ z → lent ≡ min (length t / 2) 484 → length own ≡ 484
    → Settles (answered (called w h b y budget p q moves (take lent own))) r moves' own'
    → Answered (called w h b z budget p q moves (numbers t)) r moves'
by_own-table w h b z y budget p q moves t own lent r moves' own' same few long settled =
    let it = subst (λ x. Settles (answered (called w h b x budget p q moves (take lent own))) r moves' own') same settled in
    let c = called w h b z budget p q moves (numbers t) in
    let short : length (take lent own) ≡ min (length t / 2) 484 = length-take-le lent own (omega arith) ∙ few in
    let room : bad_ceiling z ≡ false → SameRoom c moves (take lent own) =
    (λ taken. same-room c (length t / 2) (take lent own) taken (count t) short) in
    record {
      answer = it.answer ∙ (by_test_8 c moves (take lent own) room).answer;
      moves = it.moves ∙ same-moves c (take lent own) room;
    }

-- ---- the fields of the answer, and the caller's table

module _ (w h : ℕ) (b : List ℕ) (z : ℤ) (budget p q : ℕ) (moves t : List ℕ) (r : Answer) (moves' : List ℕ)
    (it : Answered (called w h b z budget p q moves (numbers t)) r moves') where
  pub fields-apart : Apart (number r) (cell r) (plan_length r)
  fields-apart =
      let small = answered-small (called w h b z budget p q moves (numbers t)) in
      rw it.answer (record { small-number = omega arith; small-cell = omega arith; small-length = omega arith })

  module _ (k : ℕ) (is : k ≡ numbers_used (search_ran r) z) where
    uses : Used (called w h b z budget p q moves (numbers t)) k
    uses = rw (is, it.answer) (used (called w h b z budget p q moves (numbers t)))

    pub bytes-within : 2 * k ≤ length t
    bytes-within = omega (arith, uses.within, count t)

    -- the entry's result, and the bytes with the used ones cleared
    pub all-given : AllBytes t → (n : ℕ) (zeros : List ℕ) → n ≡ packed_plan r → zeros ≡ replicate (length (take (2 * k) t)) 0
        → PlanGiven (called w h b z budget p q moves t) n moves' (zeros ++ drop (2 * k) t)
    all-given all n zeros packs clear =
        record {
          answer = packs ∙ ap packed_plan it.answer;
          moves = it.moves;
          table =
              ap (λ l. l ++ drop (2 * k) t) (clear ∙ ap (λ m. replicate m 0) (length-take-le (2 * k) t bytes-within))
              ∙ sym (cleared-bytes k t all uses.within)
              ∙ ap (λ l. bytes_of l ++ odd_byte t) (sym uses.left);
        }

-- ---- the entries hand the ceiling on as the same number
pub same-ceiling : (w h : ℕ) (b : List ℕ) (z y : ℤ) (budget p q : ℕ) (moves t : List ℕ) (n : ℕ) (moves' table' : List ℕ) → y ≡ z
    → PlanGiven (called w h b y budget p q moves t) n moves' table' → PlanGiven (called w h b z budget p q moves t) n moves' table'
same-ceiling w h b z y budget p q moves t n moves' table' same given =
    subst (λ x. PlanGiven (called w h b x budget p q moves t) n moves' table') same given
