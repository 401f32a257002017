-- The lent buffers. They matter to an answer only through test 8, that is through their lengths: with anything else in them the answer and
-- its plan are the same. Then what is left of the table, by whether the search was run. Assumes nothing.
use Prim.Native.Nat.{ℕ, ◌≤◌}
use mathlib.Core.Path.{◌≡◌, refl, sym, ap, ◌∙◌}
use mathlib.Core.Bool.{true, false}
use mathlib.Core.List.{List, ◌++◌}
use mathlib.Core.Logic.{inr}
use mathlib.Core.Option.{Option, none, some}
use native.Mathlib.Omega.{arith}
use lib.ListN.{length, take, drop}
use lib.Seq.{take-append_seam}
use Rattle.board.specs.Tests.{first_refusal, NoneHolds}
use Rattle.board.specs.Faults.{fault_tests}
use Rattle.board.proofs.Laws.{same-behind}
use Rattle.search.specs.Search.{Outcome, found, value, spent}
use Rattle.search.specs.Run.{rows_for}
use Rattle.planner.specs.declared.Refusal.{Refusal}
use Rattle.planner.specs.declared.Refusal.TheVariants.{Board, Beyond, ShortBuffer, OddBoard, NoPlan, OutOfVisits}
use Rattle.std.specs.Prelude.{Err}
use Rattle.planner.specs.Limits.{bad_ceiling, ceiling_of, limit_tests}
use Rattle.planner.specs.Answer.{Call, Left, short_buffer, last_tests, tests, searched, cleared, concluded, after_tests, answered}
use Rattle.planner.specs.Answer.{called, plan_length, refusal_number, TestNumber, search_ran}
use Rattle.planner.proofs.theory.Passing.{limits-kept, buffers_pass}
use Rattle.planner.proofs.theory.Ways.{clear, refusing, early_number, apart, Way, refused, ran, way}

-- the call with other buffers
abbrev pub lending : Call → List ℕ → List ℕ → Call
lending c moves table = called c.width c.height c.board c.ceiling c.budget c.p c.q moves table

-- the answer is the same, and the moves are those lent with the plan at their start
pub record SameAnswer (l : Left) (moves : List ℕ) (l' : Left) : Type 0 where
  pub answer : l'.answer ≡ l.answer
  pub moves_are : l'.moves ≡ take (plan_length l.answer) l.moves ++ drop (plan_length l.answer) moves

-- test 8 says the same of both
abbrev pub SameRoom : Call → List ℕ → List ℕ → Type 0
SameRoom c moves table =
    short_buffer (ceiling_of c.ceiling) (length moves) (length table)
    ≡ short_buffer (ceiling_of c.ceiling) (length c.moves) (length c.table)

module _ (c : Call) (moves table : List ℕ) where
  same_end : (o : Outcome) → SameAnswer (concluded c o) moves (concluded (lending c moves table) o)
  unfolding concluded
  same_end (found ms left) =
      record {
        answer = refl;
        moves_are = ap (λ (l : List ℕ). l ++ drop (length ms) moves) (sym (take-append_seam ms (drop (length ms) c.moves)));
      }
  same_end (value v left) = record { answer = refl; moves_are = refl }
  same_end spent = record { answer = refl; moves_are = refl }

  same_after : (o : Option Refusal) → SameAnswer (after_tests c o) moves (after_tests (lending c moves table) o)
  unfolding after_tests searched
  same_after (some r) = record { answer = refl; moves_are = refl }
  same_after none = same_end (searched c)

  -- test 8 is asked only of a ceiling that is taken
  pub by_test_8 : (bad_ceiling c.ceiling ≡ false → SameRoom c moves table)
      → SameAnswer (answered c) moves (answered (lending c moves table))
  unfolding answered tests last_tests first_refusal
  by_test_8 room = rw same_first (same_after (first_refusal (tests c)))
    where
      same-last : NoneHolds (limit_tests c.ceiling c.budget c.p c.q)
          → first_refusal (last_tests (lending c moves table)) ≡ first_refusal (last_tests c)
      same-last kept = rw (room (limits-kept c.ceiling c.budget c.p c.q kept).ceiling_ok)

      same_first : first_refusal (tests (lending c moves table)) ≡ first_refusal (tests c)
      same_first =
          same-behind Board (fault_tests c.width c.height c.board) _ _
          (λ sound. same-behind Beyond (limit_tests c.ceiling c.budget c.p c.q) _ _ same-last)

  pub by_length : length moves ≡ length c.moves → length table ≡ length c.table
      → SameAnswer (answered c) moves (answered (lending c moves table))
  by_length short same = by_test_8 (λ taken. rw (short, same))

-- a table lent by itself changes no move either
pub same-moves : (c : Call) (table : List ℕ) → (bad_ceiling c.ceiling ≡ false → SameRoom c c.moves table)
    → (answered (lending c c.moves table)).moves ≡ (answered c).moves
same-moves c table room =
    (by_test_8 c c.moves table room).moves_are ∙ sym (by_test_8 c c.moves c.table (λ taken. refl)).moves_are

-- what is left of the table: a test's refusal leaves it as found; a search had room for its numbers and leaves them cleared
pub data TableLeft (c : Call) : Type 0 where
  as_found : search_ran (answered c).answer ≡ false → (answered c).table ≡ c.table → TableLeft c
  zeroed : search_ran (answered c).answer ≡ true → rows_for (ceiling_of c.ceiling) ≤ length c.table → (answered c).table ≡ cleared c
      → TableLeft c

-- a refusal that a test gives is not the search's
not-searched : (r : Refusal) → TestNumber (refusal_number r) → search_ran (Err r) ≡ false
not-searched (Board f) h = refl
not-searched (Beyond l) h = refl
not-searched ShortBuffer h = refl
not-searched OddBoard h = refl
not-searched (NoPlan v) h = absurd (apart h (inr (omega arith)))
not-searched (OutOfVisits v) h = absurd (apart h (inr (omega arith)))

pub table-left : (c : Call) → TableLeft c
unfolding concluded
table-left c = go (way c)
  where
    room : NoneHolds (tests c) → rows_for (ceiling_of c.ceiling) ≤ length c.table
    room passed = (buffers_pass (ceiling_of c.ceiling) (length c.moves) (length c.table) (clear c passed).buffers).1

    ran-is : {l : Left} → answered c ≡ l → search_ran (answered c).answer ≡ search_ran l.answer
    ran-is w = ap (λ (l : Left). search_ran l.answer) w

    go : Way c → TableLeft c
    go (refused {why} first w) =
        as_found (ran-is w ∙ not-searched why (early_number c (refusing c first))) (ap (λ (l : Left). l.table) w)
    go (ran passed (found ms left) run w) = zeroed (ran-is w) (room passed) (ap (λ (l : Left). l.table) w)
    go (ran passed (value v left) run w) = zeroed (ran-is w) (room passed) (ap (λ (l : Left). l.table) w)
    go (ran passed spent run w) = zeroed (ran-is w) (room passed) (ap (λ (l : Left). l.table) w)
