-- A record in the words of `Form` and the bytes that the writer puts are the same: texts that spell numbers are their groups, and a good
-- plan is one that passes E1's tests before 8. Assumes nothing.
use Prim.Native.Nat.{ℕ}
use native.Mathlib.Omega.{arith}
use mathlib.Core.Path.{◌≡◌, refl, sym, ap, subst, ◌∙◌}
use mathlib.Core.Bool.{false, not}
use mathlib.Core.List.{List, [], ◌∷◌, ◌++◌, map}
use lib.IntN.{pos}
use lib.ListN.{length}
use borrow.Author.Tests.{le-ltb}
use Rattle.board.specs.Tests.{NoneHolds, end, past}
use Rattle.board.specs.Faults.{fault_tests}
use Rattle.board.proofs.Laws.{none_both, none-split, none-faulty, faultless-sound, is_goal-complete}
use Rattle.planner.specs.Limits.{ceiling_of, limit_tests}
use Rattle.player.specs.Play.{first_bad}
use Rattle.player.proofs.Laws.{no_bad-move}
use Rattle.records.specs.declared.PlanRefusal.TheVariants.{Board, Beyond}
use Rattle.records.specs.Groups.{groups, spelled}
use Rattle.records.specs.Mark.{mark, mark_bytes}
use Rattle.records.specs.Record.{Fields, shape_numbers, plan_numbers, body, sealed, record_of}
use Rattle.records.specs.Write.{Given, given, fields_of, shape_of, list_tests, plan_tests, too_short, write_tests}
use Rattle.records.specs.Form.{Spelling, none, more, joined, GoodPlan, IsRecord}
use Rattle.records.proofs.theory.Grouping.{groups_spell, groups_only}
use Rattle.records.proofs.theory.Outcomes.{Fitting, passes}

-- ---- texts and groups

spelling_only : {ss : List (List ℕ)} {ns : List ℕ} → Spelling ss ns → joined ss ≡ spelled ns
unfolding spelled
spelling_only none = refl
spelling_only (more {s} {n} {ss} {ns} spells rest) =
    ap (λ (t : List ℕ). t ++ joined ss) (groups_only spells) ∙ ap (λ (l : List ℕ). groups n ++ l) (spelling_only rest)

spelling_of : (ns : List ℕ) → Spelling (map groups ns) ns
spelling_of [] = none
spelling_of (n ∷ ns) = more (groups_spell n) (spelling_of ns)

-- ---- good plans

-- the plan of these fields, as a writer is given it
abbrev pub plan_given : Fields → Given
plan_given f = given f.width f.height f.cells (pos f.ceiling) f.p f.q f.visits f.moves

list_clear : (f : Fields) → GoodPlan f → NoneHolds (list_tests f false)
unfolding list_tests
list_clear f good =
    let s = shape_of f in
    let whole = (no_bad-move s f.cells f.moves).1 good.solves.plays in
    past (le-ltb f.ceiling (length f.moves) good.within)
    (past (le-ltb (first_bad s f.cells f.moves) (length f.moves) (omega (arith, whole)))
    (past (ap not (is_goal-complete s _ good.solves.reaches)) (past refl end)))

good-clear : (f : Fields) → GoodPlan f → NoneHolds (plan_tests (plan_given f) false)
unfolding plan_tests ceiling_of
good-clear f good =
    let sound = faultless-sound (shape_of f) f.cells good.shape good.board in
    none_both Board (none-faulty f.width f.height f.cells (shape_of f) sound)
    (none_both Beyond good.limits (list_clear f good))

limits_of : (f : Fields) → NoneHolds (plan_tests (plan_given f) false) → NoneHolds (limit_tests (pos f.ceiling) f.visits f.p f.q)
unfolding plan_tests
limits_of f clear =
    (none-split Beyond (limit_tests (pos f.ceiling) f.visits f.p f.q)
    (none-split Board (fault_tests f.width f.height f.cells) clear).1).0

clear-good : (f : Fields) → NoneHolds (plan_tests (plan_given f) false) → GoodPlan f
unfolding ceiling_of write_tests
clear-good f clear =
    let g = plan_given f in
    let bytes = record_of (fields_of g) in
    let room : too_short bytes bytes ≡ false = le-ltb (length bytes) (length bytes) (omega arith) in
    let fitting : Fitting g bytes = passes g bytes (subst (λ s. NoneHolds (plan_tests g s)) (sym room) clear) in
    record {
      shape = fitting.limited.passed.shape;
      board = fitting.limited.passed.board;
      limits = limits_of f clear;
      within = fitting.within;
      solves = fitting.solves;
    }

-- ---- a record

pub formed : (bytes : List ℕ) (f : Fields) → IsRecord bytes f
    → NoneHolds (plan_tests (plan_given f) false) × (bytes ≡ record_of (fields_of (plan_given f)))
unfolding body sealed ceiling_of
formed bytes f is = (
  good-clear f is.plan,
  is.whole
      ∙ ap (λ (l : List ℕ). (l ++ f.moves) ++ mark_bytes (mark (l ++ f.moves))) (spelling_only is.numbers),
)

pub form_of : (bytes : List ℕ) (f : Fields) → NoneHolds (plan_tests (plan_given f) false) → bytes ≡ record_of (fields_of (plan_given f))
    → IsRecord bytes f
unfolding body sealed ceiling_of
form_of bytes f clear whole =
    let numbers = shape_numbers f ++ f.cells ++ plan_numbers f in
    record {
      texts = map groups numbers;
      numbers = spelling_of numbers;
      whole =
          whole
          ∙ ap (λ (l : List ℕ). (l ++ f.moves) ++ mark_bytes (mark (l ++ f.moves))) (sym (spelling_only (spelling_of numbers)));
      plan = clear-good f clear;
    }
