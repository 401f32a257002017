-- What an answer means: a refusal is that of the first test that holds, and a record is answered where none holds; what then holds of the
-- plan; and what the output is afterwards. Assumes nothing.
use Prim.Native.Nat.{ℕ, ◌≤◌}
use mathlib.Core.Path.{◌≡◌, refl, sym, ap}
use mathlib.Core.Logic.{◌↔◌}
use mathlib.Core.List.{List, ◌++◌}
use mathlib.Core.Option.{Option, none, some}
use native.Mathlib.Omega.{arith}
use lib.IntN.{pos}
use lib.ListN.{length, drop}
use borrow.Author.Tests.{ltb-false, not-false}
use Rattle.std.specs.Prelude.{Ok, Err}
use Rattle.board.specs.Lists.{LegalList, Solves}
use Rattle.board.specs.Tests.{Test, first_refusal, FirstToHold, NoneHolds, end, past}
use Rattle.board.specs.Faults.{fault_tests}
use Rattle.board.proofs.Laws.{first_means, first-given, none_means, none-given, none-split, board-of, list_board, is_goal-sound}
use Rattle.planner.specs.Limits.{ceiling_of, limit_tests}
use Rattle.planner.proofs.theory.Divisors.{Lowest}
use Rattle.planner.proofs.theory.Lowest.{kept-lowest}
use Rattle.planner.proofs.theory.Passing.{limits-kept, ceiling-passes, ceiling-named, budget-passes, weight-passes, GoodWeight}
use Rattle.player.specs.Play.{first_bad}
use Rattle.player.proofs.Laws.{first-bad-within, no_bad-move}
use Rattle.records.specs.declared.PlanRefusal.{PlanRefusal}
use Rattle.records.specs.declared.PlanRefusal.TheVariants.{Board, Beyond}
use Rattle.records.specs.Record.{Fields, record_of}
use Rattle.records.specs.Write.{Given, fields_of, shape_of, list_tests, plan_tests, too_short, write_tests, leaves, left_by}
use Rattle.records.proofs.theory.Lengths.{Limited}

-- ---- by the tests, whatever they are

module _ (bytes found : List ℕ) where
  refused-some : (o : Option PlanRefusal) (r : PlanRefusal) → (leaves bytes found o).answer ≡ Err r → o ≡ some r
  unfolding leaves
  refused-some none r e = cc
  refused-some (some why) r e = cc

  record_none : (o : Option PlanRefusal) (k : ℕ) → (leaves bytes found o).answer ≡ Ok k → (o ≡ none) × (k ≡ length bytes)
  unfolding leaves
  record_none none k e = (refl, cc)
  record_none (some why) k e = cc

  module _ (ts : List (Test PlanRefusal)) where
    pub refused_by : (r : PlanRefusal) → ((left_by bytes found ts).answer ≡ Err r) ↔ FirstToHold ts r
    unfolding leaves
    refused_by r = (
      λ e. first_means ts r (refused-some (first_refusal ts) r e),
      λ first. rw (first-given first) refl,
    )

    pub recorded_by : (k : ℕ) → ((left_by bytes found ts).answer ≡ Ok k) ↔ (NoneHolds ts × (k ≡ length bytes))
    unfolding leaves
    recorded_by k = (
      λ e. (none_means ts (record_none (first_refusal ts) k e).0, (record_none (first_refusal ts) k e).1),
      λ both. rw (none-given both.0) (ap Ok (sym both.1)),
    )

    pub refused-leaves : (r : PlanRefusal) → (left_by bytes found ts).answer ≡ Err r → (left_by bytes found ts).out ≡ found
    unfolding leaves
    refused-leaves r e = rw (refused-some (first_refusal ts) r e)

    pub record_leaves : (k : ℕ) → (left_by bytes found ts).answer ≡ Ok k → (left_by bytes found ts).out ≡ bytes ++ drop k found
    unfolding leaves
    record_leaves k e =
        let what = record_none (first_refusal ts) k e in
        rw (what.0, what.1)

-- ---- what passes all tests

-- a list that leads from the board to the goal, within the ceiling that was given, and a record with room for it
pub record Fitting (g : Given) (found : List ℕ) : Type 0 where
  pub limited : Limited (fields_of g)
  pub ceiling-is : pos (ceiling_of g.ceiling) ≡ g.ceiling
  pub solves : Solves (shape_of (fields_of g)) g.board g.moves
  pub within : length g.moves ≤ ceiling_of g.ceiling
  pub weight : GoodWeight g.p g.q
  pub lowest : Lowest g.p g.q
  pub visited : 1 ≤ g.visits
  pub room : length (record_of (fields_of g)) ≤ length found

pub passes : (g : Given) (found : List ℕ) → NoneHolds (write_tests g found) → Fitting g found
unfolding write_tests plan_tests list_tests
passes g found clear =
    let first = none-split Board (fault_tests g.width g.height g.board) clear in
    let second = none-split Beyond (limit_tests g.ceiling g.visits g.p g.q) first.1 in
    go first.0 second.0 second.1
  where
    f : Fields
    f = fields_of g

    go :
        NoneHolds (fault_tests g.width g.height g.board)
        → NoneHolds (limit_tests g.ceiling g.visits g.p g.q)
        → NoneHolds (list_tests f (too_short (record_of f) found))
        → Fitting g found
    go sound kept (past length-ok (past moves-ok (past goal-ok (past room-ok end)))) =
        let board = board-of g.width g.height g.board sound in
        let limits = limits-kept g.ceiling g.visits g.p g.q kept in
        let most = ceiling-passes g.ceiling limits.ceiling_ok in
        let visits = budget-passes g.visits limits.budget_ok in
        let weight = weight-passes g.p g.q limits.weight_ok in
        let few : length g.moves ≤ ceiling_of g.ceiling = ltb-false _ _ length-ok in
        let none-bad : length g.moves ≤ first_bad (shape_of f) g.board g.moves = ltb-false _ _ moves-ok in
        let plays : LegalList (shape_of f) g.board g.moves =
        (no_bad-move (shape_of f) g.board g.moves).0 (omega (arith, first-bad-within (shape_of f) g.board g.moves)) in
        let long = (list_board (shape_of f) board.0 g.moves g.board board.1 plays).long in
        record {
          limited =
              record {
                passed = record { shape = board.0; board = board.1; ceiling = most };
                p-most = weight.most;
                q-most = omega (arith, weight.order, weight.most);
                visits-most = visits.1;
                moves-most = omega arith;
              };
          ceiling-is = ceiling-named g.ceiling limits.ceiling_ok;
          solves = record { plays = plays; reaches = is_goal-sound (shape_of f) _ long (not-false _ goal-ok) };
          within = few;
          weight = weight;
          lowest = kept-lowest limits;
          visited = visits.0;
          room = ltb-false _ _ room-ok;
        }
