-- What the player promises, in terms of the board part's legal lists: the answer is exactly the one whose case holds
-- (`answer_case`, `case_answer`); a refusal leaves the output as found; a list that was played puts its end board there.
-- Assumes nothing.
use Prim.Native.Nat.{ℕ, ◌≤◌, ◌<◌}
use mathlib.Core.Path.{◌≡◌, refl, sym, ap, ◌∙◌}
use mathlib.Core.Logic.{◌↔◌}
use mathlib.Core.Bool.{Bool, true, false, true≢false}
use mathlib.Core.List.{List, ◌++◌}
use native.Mathlib.Omega.{arith}
use lib.Dec.{ltb}
use lib.ListN.{length, drop, get_or}
use borrow.Author.Tests.{ltb-true, ltb-false, lt-ltb, le-ltb}
use Rattle.board.specs.declared.Shape.{Shape}
use Rattle.board.specs.declared.Fault.{Fault}
use Rattle.std.specs.Prelude.{Result, Ok, Err}
use Rattle.board.specs.Shape.{cells}
use Rattle.board.specs.Board.{goal, is_goal}
use Rattle.board.specs.Lists.{LegalList, end_board}
use Rattle.board.specs.Faults.{tested}
use Rattle.board.proofs.Laws.{sound_means, faultless-sound, list_board, is_goal-sound, is_goal-complete}
use Rattle.player.specs.declared.PlayRefusal.{PlayRefusal}
use Rattle.player.specs.declared.PlayRefusal.TheVariants.{ShortOutput}
use Rattle.player.specs.Play.{Played}
use Rattle.player.specs.Play.{first_bad, bad_move, comes_to, answer_on, answer_after, answer_for, out_after, PlayedAs}
use Rattle.player.specs.Cases.{OnCabinet, FirstBadAt, CaseOf, faulty, short, no_move, off_grid, played}
use Rattle.player.proofs.theory.FirstBad.{first-bad-within, no_bad-move, first-bad-move}

-- two tests that say the same are equal
same_test : (t u : Bool) → (t ≡ true → u ≡ true) → (u ≡ true → t ≡ true) → t ≡ u
same_test true u to back = sym (to refl)
same_test false true to back = absurd (true≢false (sym (back refl)))
same_test false false to back = refl

module _ (s : Shape) (b moves : List ℕ) (on : OnCabinet s b) where
  -- a legal list says yes exactly if it ends at the goal
  goal_iff : LegalList s b moves → (is_goal s (end_board s b moves) ≡ true) ↔ (end_board s b moves ≡ goal s)
  goal_iff plays = (
    is_goal-sound s (end_board s b moves) (list_board s on.shape moves b on.board plays).long,
    is_goal-complete s (end_board s b moves),
  )

  first-bad-at : first_bad s b moves < length moves → FirstBadAt s b moves (first_bad s b moves)
  first-bad-at inside =
      let means = (first-bad-move s b moves (first_bad s b moves) inside).0 refl in
      record { inside = inside; before = means.0; bad = means.1 }

  module _ (room : ℕ) where
    -- ---- the answer has its case

    bad_case : (i : ℕ) → cells s ≤ room → FirstBadAt s b moves i → CaseOf s b moves room (Err (bad_move (get_or moves i 0) i))
    unfolding bad_move
    bad_case i enough first = go (ltb 3 (get_or moves i 0)) refl
      where
        go : (t : Bool) → ltb 3 (get_or moves i 0) ≡ t → CaseOf s b moves room (Err (bad_move (get_or moves i 0) i))
        go true e = rw e (no_move i on enough first (ltb-true _ _ e))
        go false e = rw e (off_grid i on enough first (ltb-false _ _ e))

    list_case : cells s ≤ room → CaseOf s b moves room (comes_to s (end_board s b moves) moves (first_bad s b moves))
    unfolding comes_to
    list_case enough = go (ltb (first_bad s b moves) (length moves)) refl
      where
        go :
            (t : Bool)
            → ltb (first_bad s b moves) (length moves) ≡ t
            → CaseOf s b moves room (comes_to s (end_board s b moves) moves (first_bad s b moves))
        go true e = rw e (bad_case _ enough (first-bad-at (ltb-true _ _ e)))
        go false e =
            let past : length moves ≤ first_bad s b moves = ltb-false (first_bad s b moves) (length moves) e in
            let plays = (no_bad-move s b moves).0 (omega (arith, first-bad-within s b moves)) in
            rw e (played _ on enough plays (goal_iff plays))

    sound_case : CaseOf s b moves room (answer_on s b moves room)
    unfolding answer_on
    sound_case = go (ltb room (cells s)) refl
      where
        go : (t : Bool) → ltb room (cells s) ≡ t → CaseOf s b moves room (answer_on s b moves room)
        go true e = rw e (short on (ltb-true _ _ e))
        go false e = rw e (list_case (ltb-false _ _ e))

    -- ---- where a case holds, its answer is given

    sound-answer : answer_for s.width s.height b moves room ≡ answer_on s b moves room
    unfolding answer_after
    sound-answer = rw (faultless-sound s b on.shape on.board)

    short-answer : room < cells s → answer_for s.width s.height b moves room ≡ Err ShortOutput
    unfolding answer_on
    short-answer less = sound-answer ∙ rw (lt-ltb room (cells s) less)

    list_answer :
        cells s ≤ room
        → answer_for s.width s.height b moves room ≡ comes_to s (end_board s b moves) moves (first_bad s b moves)
    unfolding answer_on
    list_answer enough = sound-answer ∙ rw (le-ltb room (cells s) enough)

    bad-answer :
        (i : ℕ)
        → cells s ≤ room
        → FirstBadAt s b moves i
        → answer_for s.width s.height b moves room ≡ Err (bad_move (get_or moves i 0) i)
    unfolding comes_to
    bad-answer i enough first =
        let is : first_bad s b moves ≡ i = (first-bad-move s b moves i first.inside).1 (first.before, first.bad) in
        list_answer enough ∙ rw (is, lt-ltb i (length moves) first.inside)

    end-answer :
        cells s ≤ room
        → LegalList s b moves
        → answer_for s.width s.height b moves room ≡ Ok (is_goal s (end_board s b moves))
    unfolding comes_to
    end-answer enough plays =
        list_answer enough
        ∙ rw ((no_bad-move s b moves).1 plays, le-ltb (length moves) (length moves) (omega arith))

-- ---- the answer is exactly the one whose case holds

pub answer_case :
    (width height : ℕ) (b moves : List ℕ) (room : ℕ)
    → CaseOf (record { width = width; height = height }) b moves room (answer_for width height b moves room)
unfolding answer_after
answer_case width height b moves room = go (tested width height b) refl
  where
    s : Shape
    s = record { width = width; height = height }

    go : (t : Result Shape Fault) → tested width height b ≡ t → CaseOf s b moves room (answer_after t b moves room)
    go (Err fault) e = faulty fault e
    go (Ok shape) e =
        let means = sound_means width height b shape e in
        let good : OnCabinet shape b = record { shape = means.1; board = means.2 } in
        rw means.0 (sound_case s b moves (rw means.0 at good) room)

pub case_answer :
    (s : Shape) (b moves : List ℕ) (room : ℕ) (answer : Played)
    → CaseOf s b moves room answer
    → answer ≡ answer_for s.width s.height b moves room
unfolding answer_after bad_move
case_answer s b moves room answer (faulty fault e) = rw e
case_answer s b moves room answer (short on less) = sym (short-answer s b moves on room less)
case_answer s b moves room answer (no_move i on enough first above) =
    sym (bad-answer s b moves on room i enough first ∙ rw (lt-ltb 3 (get_or moves i 0) above))
case_answer s b moves room answer (off_grid i on enough first below) =
    sym (bad-answer s b moves on room i enough first ∙ rw (le-ltb 3 (get_or moves i 0) below))
case_answer s b moves room answer (played says on enough plays iff) =
    let ends = goal_iff s b moves on plays in
    ap Ok (same_test says (is_goal s (end_board s b moves)) (λ e. ends.1 (iff.0 e)) (λ e. iff.1 (ends.0 e)))
    ∙ sym (end-answer s b moves on room enough plays)

-- ---- the output afterwards

pub refusal-leaves :
    (width height : ℕ) (b moves found out : List ℕ) (why : PlayRefusal)
    → PlayedAs width height b moves found (Err why) out
    → out ≡ found
unfolding out_after
refusal-leaves width height b moves found out why as_said = as_said.leaves

pub end_leaves :
    (s : Shape) (b moves found out : List ℕ) (says : Bool)
    → PlayedAs s.width s.height b moves found (Ok says) out
    → out ≡ end_board s b moves ++ drop (cells s) found
unfolding out_after
end_leaves s b moves found out says as_said =
    let its-case = rw (← as_said.answers) at (answer_case s.width s.height b moves (length found)) in
    as_said.leaves ∙ ap (λ n. end_board s b moves ++ drop n found) (long its-case)
  where
    long : CaseOf s b moves (length found) (Ok says) → length (end_board s b moves) ≡ cells s
    long (played y on enough plays iff) = (list_board s on.shape moves b on.board plays).long
