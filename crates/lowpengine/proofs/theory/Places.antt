-- The place that the record writer tells is never so far that it saturates: a cell is one of sixteen, and a move is looked at only in a
-- list of at most 120. Assumes nothing.
use Prim.Native.Nat.{ℕ, ◌≤◌, ◌<◌}
use mathlib.Core.Path.{◌≡◌, refl}
use mathlib.Core.Bool.{Bool, true, false, cond}
use mathlib.Core.List.{List, ◌++◌}
use native.Mathlib.Omega.{arith}
use lib.Dec.{ltb}
use lib.ListN.{length, get_or}
use borrow.Author.Tests.{ltb-true, ltb-false}
use Rattle.board.specs.Tests.{Test, FirstToHold, here, later, under}
use Rattle.board.specs.Faults.{fault_tests}
use Rattle.board.proofs.Laws.{Split, front, behind, first-split, fault-cell-inside, faulty-given}
use Rattle.planner.specs.declared.Limit.{Limit}
use Rattle.planner.specs.Limits.{limit_tests}
use Rattle.planner.proofs.theory.Passing.{limits-kept, ceiling-passes}
use Rattle.player.specs.declared.PlayRefusal.TheVariants.{NoMove, OffGrid}
use Rattle.player.specs.Play.{first_bad, bad_move}
use Rattle.records.specs.declared.PlanRefusal.{PlanRefusal}
use Rattle.records.specs.declared.PlanRefusal.TheVariants.{Board, Beyond}
use Rattle.records.specs.Answers.{refusal_place}
use Rattle.records.specs.Record.{Fields, record_of}
use Rattle.records.specs.Write.{Given, fields_of, shape_of, unplayed, list_tests, plan_tests, too_short, write_tests}

bad-place : (byte i : ℕ) → refusal_place (unplayed (bad_move byte i)) ≡ i
unfolding bad_move
bad-place byte i = go (ltb 3 byte)
  where
    go : (above : Bool) → refusal_place (unplayed (cond above (NoMove i) (OffGrid i))) ≡ i
    go true = refl
    go false = refl

-- of the tests of the list
list_place : (f : Fields) (short : Bool) (why : PlanRefusal) → f.ceiling ≤ 120 → FirstToHold (list_tests f short) why
    → refusal_place why ≤ 120
unfolding list_tests
list_place f short why most (here long) = omega arith
list_place f short why most (later fits (here bad)) =
    let place = first_bad (shape_of f) f.cells f.moves in
    let inside : place < length f.moves = ltb-true _ _ bad in
    let few : length f.moves ≤ f.ceiling = ltb-false _ _ fits in
    omega (arith, bad-place (get_or f.moves place 0) place)
list_place f short why most (later fits (later plays (here elsewhere))) = omega arith
list_place f short why most (later fits (later plays (later goal (here no_room)))) = omega arith
list_place f short why most (later fits (later plays (later goal (later _ x20)))) = elim x20 [ ]

module _ (g : Given) (found : List ℕ) where
  abbrev limits : List (Test Limit)
  limits = limit_tests g.ceiling g.visits g.p g.q

  abbrev listed : List (Test PlanRefusal)
  listed = list_tests (fields_of g) (too_short (record_of (fields_of g)) found)

  past-board : (why : PlanRefusal) → Split Beyond limits listed why → refusal_place why ≤ 120
  past-board why (front it) = omega arith
  past-board why (behind passed it) =
      let kept = limits-kept g.ceiling g.visits g.p g.q passed in
      list_place (fields_of g) _ why (ceiling-passes g.ceiling kept.ceiling_ok) it

  of-board : (why : PlanRefusal) → Split Board (fault_tests g.width g.height g.board) (under Beyond limits ++ listed) why
      → refusal_place why ≤ 120
  of-board why (front {r} it) =
      let inside = fault-cell-inside g.width g.height g.board r (faulty-given g.width g.height g.board r it) in
      omega arith
  of-board why (behind passed it) = past-board why (first-split Beyond limits it)

  pub record_place : (why : PlanRefusal) → FirstToHold (write_tests g found) why → refusal_place why ≤ 120
  unfolding write_tests plan_tests
  record_place why first = of-board why (first-split Board (fault_tests g.width g.height g.board) first)
