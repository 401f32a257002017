-- What the record reader accepts fits the bits of its fields: by the tests, sides are at most 4, ceiling and length at most 120, the
-- weight's numbers at most 64 and the visits at most 1,000,000. Assumes nothing.
use Rattle.std.specs.Prelude.{Ok, Err}
use Prim.Native.Nat.{ℕ, ◌+◌, ◌≤◌}
use mathlib.Core.Path.{◌≡◌, refl, subst}
use mathlib.Core.Bool.{Bool}
use mathlib.Core.List.{List, [], ◌++◌, append-nil}
use mathlib.Core.Option.{Option, none, some}
use native.Mathlib.Omega.{arith}
use lib.IntN.{pos}
use lib.ListN.{length, length-take, length-drop, drop}
use borrow.Author.Tests.{ltb-false}
use Rattle.board.specs.Tests.{Test, first_refusal, NoneHolds, past, under}
use Rattle.board.specs.Faults.{fault_tests}
use Rattle.board.proofs.Laws.{none_means, none-split, board-of, side_within}
use Rattle.planner.specs.Limits.{ceiling_of, limit_tests}
use Rattle.planner.proofs.theory.Passing.{limits-kept, ceiling-passes, budget-passes, weight-passes}
use Rattle.records.specs.declared.Numbers.{Numbers}
use Rattle.records.specs.declared.PlanRefusal.TheVariants.{Board, Beyond}
use Rattle.records.specs.declared.ReadRefusal.{ReadRefusal}
use Rattle.records.specs.declared.ReadRefusal.TheVariants.{Plan}
use Rattle.records.specs.Write.{fields_of, list_tests, plan_tests}
use Rattle.records.specs.Read.{Begun, given_of, no_room, reading_tests, end_tests, moves_at, leaves_read, begun_read}
use Rattle.records.specs.Read.{numbers_in}
use Rattle.records.specs.Read.{read_back}
use Rattle.lowpengine.specs.Packed.{Narrow, NarrowIn}

-- E1's tests leave no wide number
by_tests : (n : Numbers) (cells moves : List ℕ) (short : Bool) → n.length ≤ length moves
    → NoneHolds (plan_tests (given_of n cells moves) short) → Narrow n
unfolding plan_tests list_tests ceiling_of
by_tests n cells moves short few clear =
    let first = none-split Board (fault_tests n.width n.height cells) clear in
    let second = none-split Beyond (limit_tests (pos n.ceiling) n.visits n.p n.q) first.1 in
    go first.0 second.0 second.1
  where
    go :
        NoneHolds (fault_tests n.width n.height cells)
        → NoneHolds (limit_tests (pos n.ceiling) n.visits n.p n.q)
        → NoneHolds (list_tests (fields_of (given_of n cells moves)) short)
        → Narrow n
    go sound kept (past length-ok rest) =
        let shape = (board-of n.width n.height cells sound).0 in
        let wide = side_within shape.wide in
        let high = side_within shape.high in
        let limits = limits-kept (pos n.ceiling) n.visits n.p n.q kept in
        let most : n.ceiling ≤ 120 = ceiling-passes (pos n.ceiling) limits.ceiling_ok in
        let visits = budget-passes n.visits limits.budget_ok in
        let weight = weight-passes n.p n.q limits.weight_ok in
        let within : length moves ≤ n.ceiling = ltb-false _ _ length-ok in
        record {
          small_width = omega (arith, wide.most);
          small-height = omega (arith, high.most);
          small-ceiling = omega arith;
          small-p = omega (arith, weight.most);
          small-q = omega (arith, weight.order, weight.most);
          small-length = omega arith;
          small-visits = omega (arith, visits.1);
        }

-- behind the end's tests, where the moves are as many as the length says
behind-end : (bytes found : List ℕ) (n : Numbers) (cells : List ℕ) (at : ℕ) → let moves = moves_at bytes at n.length in
    NoneHolds (end_tests bytes (at + n.length) ++ under Plan (reading_tests n cells moves found)) → Narrow n
unfolding end_tests
behind-end bytes found n cells at (past long (past exact (past sealed rest))) =
    let moves = moves_at bytes at n.length in
    let enough : at + n.length + 4 ≤ length bytes = ltb-false _ _ long in
    let whole : n.length ≤ length moves = omega (arith, length-take n.length (drop at bytes), length-drop at bytes) in
    let tests = subst NoneHolds (append_nil' (under Plan (reading_tests n cells moves found))) rest in
    by_tests n cells moves (no_room cells moves found) whole
    (none-split Plan (reading_tests n cells moves found) {us = []} tests).0
  where
    append_nil' : (ts : List (Test ReadRefusal)) → ts ≡ ts ++ []
    append_nil' ts = rw (append-nil ts) refl

accepted : (bytes found : List ℕ) (o : Begun) (n : Numbers) → (begun_read bytes found o).answer ≡ Ok n → Narrow n
unfolding leaves_read
accepted bytes found (Err why) n e = let z : ◌≡◌ {A = ℕ} 0 1 = cc in absurd (omega arith)
accepted bytes found (Ok (m, cells, at)) n e = go (first_refusal tests) refl e
  where
    moves : List ℕ
    moves = moves_at bytes at m.length

    tests : List (Test ReadRefusal)
    tests = end_tests bytes (at + m.length) ++ under Plan (reading_tests m cells moves found)

    go : (o : Option ReadRefusal) → first_refusal tests ≡ o → (leaves_read m cells moves found o).answer ≡ Ok n → Narrow n
    go (some why) is e = let z : ◌≡◌ {A = ℕ} 0 1 = cc in absurd (omega arith)
    go none is e = let same : m ≡ n = cc in subst Narrow same (behind-end bytes found m cells at (none_means tests is))

pub reads_narrow : (bytes found : List ℕ) → NarrowIn (read_back bytes found).answer
unfolding read_back
reads_narrow bytes found n e = accepted bytes found (numbers_in bytes) n e
