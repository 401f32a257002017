-- The tests as the code takes them one after the other: what each way out of the writer settles. First tests 1 to 7 and 15, then what the
-- player's answer tells of the list, then tests 21 to 8. Assumes nothing.
use Prim.Native.Nat.{ℕ, ◌≤◌, ◌<◌}
use mathlib.Core.Path.{◌≡◌, refl, sym, ap, subst, ◌∙◌}
use mathlib.Core.Bool.{Bool, true, false, not, true≢false}
use mathlib.Core.List.{List, [], ◌∷◌, ◌++◌}
use native.Mathlib.Omega.{arith}
use lib.Dec.{ltb}
use lib.ListN.{length, drop, get_or}
use borrow.Author.Tests.{lt-ltb, le-ltb}
use Rattle.std.specs.Prelude.{Result, Ok, Err}
use Rattle.board.specs.declared.Shape.{Shape}
use Rattle.board.specs.declared.Fault.{Fault}
use Rattle.board.specs.Board.{is_goal}
use Rattle.board.specs.Lists.{end_board}
use Rattle.board.specs.Tests.{Test, test, first_refusal, FirstToHold, here, later, NoneHolds, end, past}
use Rattle.board.specs.Faults.{fault_tests, tested}
use Rattle.board.proofs.Laws.{first-given, none-given, front-given, behind-given, behind-refusal, faulty_means, faultless-sound, board-of}
use Rattle.board.proofs.Laws.{cells-within, list_board, is_goal-sound, is_goal-complete}
use Rattle.planner.specs.declared.Limit.{Limit}
use Rattle.planner.specs.declared.Terms.{Terms}
use Rattle.planner.specs.Limits.{ceiling_of, limit_tests, measured}
use Rattle.planner.proofs.theory.Passing.{outside_means, within_means, limits-kept, ceiling-passes, budget-passes, weight-passes}
use Rattle.player.specs.declared.PlayRefusal.{PlayRefusal}
use Rattle.player.specs.Play.{Played, first_bad, bad_move, answer_for}
use Rattle.player.specs.Cases.{CaseOf, faulty, short, no_move, off_grid, played}
use Rattle.player.proofs.Laws.{first-bad-move, no_bad-move, answer_case}
use Rattle.records.specs.declared.PlanRefusal.{PlanRefusal}
use Rattle.records.specs.declared.PlanRefusal.TheVariants.{Board, Beyond, TooLong, NotSolved, ShortOutput}
use Rattle.records.specs.Record.{Fields, shape_numbers, plan_numbers, record_of, pieces, sealed}
use Rattle.records.specs.Write.{Given, fields_of, shape_of, unplayed, list_tests, plan_tests, write_tests, too_short}
use Rattle.records.specs.Write.{leaves, left_by, list_written, room_written, written, Settles, Passed, fields}
use Rattle.records.specs.Put.{Put}
use Rattle.records.proofs.theory.Pieces.{body-pieces}
use Rattle.records.proofs.theory.Lengths.{body-most}
use Rattle.records.proofs.code.Storing.{put_front}

-- ---- by the first test that holds, or none

pub settled-refusal : (bytes found : List ℕ) {ts : List (Test PlanRefusal)} {r : PlanRefusal} → FirstToHold ts r
    → Settles (left_by bytes found ts) (Err r) found
unfolding leaves
settled-refusal bytes found first = rw (first-given first) (record { answers = refl; leaves = refl })

pub settled_record : (bytes found : List ℕ) {ts : List (Test PlanRefusal)} → NoneHolds ts
    → Settles (left_by bytes found ts) (Ok (length bytes)) (bytes ++ drop (length bytes) found)
unfolding leaves
settled_record bytes found passed = rw (none-given passed) (record { answers = refl; leaves = refl })

-- ---- tests 1 to 7 and 15

module _ (g : Given) (found : List ℕ) where
  pub refused-board : (fault : Fault) → tested g.width g.height g.board ≡ Err fault
      → Settles (written g found) (Err (Board fault)) found
  unfolding written write_tests plan_tests
  refused-board fault e = settled-refusal _ found (front-given Board _ (faulty_means g.width g.height g.board fault e))

  module _ (sound : NoneHolds (fault_tests g.width g.height g.board)) where
    pub refused_limit : (limit : Limit) → measured g.ceiling g.visits g.p g.q ≡ Err limit
        → Settles (written g found) (Err (Beyond limit)) found
    unfolding written write_tests plan_tests
    refused_limit limit e =
        settled-refusal _ found
        (behind-given Board sound (front-given Beyond _ (outside_means g.ceiling g.visits g.p g.q limit e)))

    module _ (terms : Terms) (e : measured g.ceiling g.visits g.p g.q ≡ Ok terms) where
      kept : NoneHolds (limit_tests g.ceiling g.visits g.p g.q)
      kept = (within_means g.ceiling g.visits g.p g.q terms e).0

      ceiling-is : terms.ceiling ≡ ceiling_of g.ceiling
      ceiling-is = ap (λ t. t.ceiling) (within_means g.ceiling g.visits g.p g.q terms e).1

      -- the fields with the ceiling as `measured` hands it over
      abbrev pub fields_at : ℕ → Fields
      fields_at k = fields g.width g.height g.board k g.p g.q g.visits g.moves

      pub passed_seven : Passed (fields_at terms.ceiling)
      passed_seven =
          let board = board-of g.width g.height g.board sound in
          let five = (limits-kept g.ceiling g.visits g.p g.q kept).ceiling_ok in
          record { shape = board.0; board = board.1; ceiling = rw ceiling-is (ceiling-passes g.ceiling five) }

      -- the other tests follow
      pub of_list : {answer : Result ℕ PlanRefusal} {out : List ℕ} → Settles (list_written (fields_at terms.ceiling) found) answer out
          → Settles (written g found) answer out
      unfolding written write_tests plan_tests
      of_list {answer} {out} settled =
          let rest = behind-refusal Board _ sound ∙ behind-refusal Beyond _ kept in
          subst (λ why. Settles (leaves (record_of (fields_of g)) found why) answer out) (sym rest)
          (subst (λ k. Settles (list_written (fields_at k) found) answer out) ceiling-is settled)

-- ---- tests 21, 13 or 14, 22

-- the player was asked, with room for every board
abbrev pub Says : ℕ → ℕ → List ℕ → List ℕ → Played → Type 0
Says width height b moves answer = CaseOf (record { width = width; height = height }) b moves 16 answer

pub says : (width height : ℕ) (b moves : List ℕ) (answer : Played) → answer ≡ answer_for width height b moves 16
    → Says width height b moves answer
says width height b moves answer e = subst (Says width height b moves) (sym e) (answer_case width height b moves 16)

module _ (f : Fields) (found : List ℕ) where
  -- it was asked of these fields
  abbrev Said : Played → Type 0
  Said answer = Says f.width f.height f.cells f.moves answer

  pub refused-length : f.ceiling < length f.moves → Settles (list_written f found) (Err TooLong) found
  unfolding list_tests
  refused-length above = settled-refusal _ found (here (lt-ltb f.ceiling (length f.moves) above))

  module _ (passed : Passed f) (fits : length f.moves ≤ f.ceiling) where
    bad-at : (i : ℕ) → first_bad (shape_of f) f.cells f.moves ≡ i → i < length f.moves → (r : PlanRefusal)
        → unplayed (bad_move (get_or f.moves i 0) i) ≡ r → FirstToHold (list_tests f (too_short (record_of f) found)) r
    unfolding list_tests
    bad-at i is inside r why =
        let refusal = ap (λ k. unplayed (bad_move (get_or f.moves k 0) k)) is ∙ why in
        let holds = ap (λ k. ltb k (length f.moves)) is ∙ lt-ltb i (length f.moves) inside in
        later (le-ltb f.ceiling (length f.moves) fits) (subst (FirstToHold _) refusal (here holds))

    bad_list : {why : PlayRefusal} → Said (Err why) → FirstToHold (list_tests f (too_short (record_of f) found)) (unplayed why)
    unfolding bad_move
    bad_list (faulty fault e) =
        let sound = faultless-sound (shape_of f) f.cells passed.shape passed.board in
        cc
    bad_list (short on less) = absurd (omega (arith, (cells-within passed.shape).most))
    bad_list (no_move i on enough first above) =
        bad-at i ((first-bad-move _ _ _ i first.inside).1 (first.before, first.bad)) first.inside _
        (rw (lt-ltb 3 (get_or f.moves i 0) above))
    bad_list (off_grid i on enough first most) =
        bad-at i ((first-bad-move _ _ _ i first.inside).1 (first.before, first.bad)) first.inside _
        (rw (le-ltb 3 (get_or f.moves i 0) most))

    pub refused-move : {why : PlayRefusal} → Said (Err why) → Settles (list_written f found) (Err (unplayed why)) found
    refused-move case = settled-refusal _ found (bad_list case)

    -- a list that was played to its end has no bad move
    none-bad : {goal : Bool} → Said (Ok goal) → ltb (first_bad (shape_of f) f.cells f.moves) (length f.moves) ≡ false
    none-bad (played goal on enough plays iff) =
        let whole = (no_bad-move (shape_of f) f.cells f.moves).1 plays in
        le-ltb (first_bad (shape_of f) f.cells f.moves) (length f.moves) (omega (arith, whole))

    at-goal : {goal : Bool} → Said (Ok goal) → goal ≡ is_goal (shape_of f) (end_board (shape_of f) f.cells f.moves)
    at-goal (played goal on enough plays iff) = go goal refl (is_goal s last) refl
      where
        s : Shape
        s = shape_of f

        last : List ℕ
        last = end_board s f.cells f.moves

        go : (t : Bool) → goal ≡ t → (u : Bool) → is_goal s last ≡ u → t ≡ u
        go true e u h = sym (is_goal-complete s last (iff.0 e)) ∙ h
        go false e true h =
            let long = (list_board s on.shape f.moves f.cells on.board plays).long in
            absurd (true≢false (sym (iff.1 (is_goal-sound s last long h)) ∙ e))
        go false e false h = refl

    pub refused-goal : {goal : Bool} → Said (Ok goal) → goal ≡ false → Settles (list_written f found) (Err NotSolved) found
    unfolding list_tests
    refused-goal case missed =
        settled-refusal _ found
        (later (le-ltb f.ceiling (length f.moves) fits)
        (later (none-bad case) (here (ap not (sym (at-goal case) ∙ missed)))))

    -- only test 8 is left, of the bytes in pieces
    only_room : {goal : Bool} → Said (Ok goal) → goal ≡ true
        → list_written f found ≡ room_written (sealed (pieces (shape_numbers f) f.cells (plan_numbers f) f.moves)) found
    unfolding list_tests first_refusal
    only_room case reached =
        rw (le-ltb f.ceiling (length f.moves) fits, none-bad case, ap not (sym (at-goal case) ∙ reached))
        (ap (λ bytes. room_written (sealed bytes) found) (body-pieces f passed))

    pub of_room : {goal : Bool} {answer : Result ℕ PlanRefusal} {out : List ℕ} → Said (Ok goal) → goal ≡ true
        → Settles (room_written (sealed (pieces (shape_numbers f) f.cells (plan_numbers f) f.moves)) found) answer out
        → Settles (list_written f found) answer out
    of_room {answer = answer} {out = out} case reached settled =
        subst (λ left. Settles left answer out) (sym (only_room case reached)) settled

-- ---- test 8

module _ (bytes found : List ℕ) where
  pub refused-room : length found < length bytes → Settles (room_written bytes found) (Err ShortOutput) found
  refused-room less = settled-refusal bytes found (here (lt-ltb (length found) (length bytes) less))

  pub record_put : {new : List ℕ} {next : ℕ} → length bytes ≤ length found → Put bytes found 0 new next
      → Settles (room_written bytes found) (Ok next) new
  record_put {new} {next} room put =
      let settled = settled_record bytes found {ts = test (too_short bytes found) ShortOutput ∷ []}
      (past (le-ltb (length found) (length bytes) room) end) in
      record {
        answers = ap Ok (omega (arith, put.end)) ∙ settled.answers;
        leaves = put_front put room ∙ settled.leaves;
      }

-- ---- the whole call, from test 21 on

module _ (g : Given) (found : List ℕ) (sound : NoneHolds (fault_tests g.width g.height g.board)) (terms : Terms)
    (e : measured g.ceiling g.visits g.p g.q ≡ Ok terms) where
  passed : Passed (fields_at g found sound terms e terms.ceiling)
  passed = passed_seven g found sound terms e

  pub length-refused : terms.ceiling < length g.moves → Settles (written g found) (Err TooLong) found
  length-refused above = of_list g found sound terms e (refused-length _ found above)

  module _ (fits : length g.moves ≤ terms.ceiling) where
    pub ceiling_few : (terms.ceiling ≤ 120) × (length g.moves ≤ 120)
    ceiling_few = (omega (arith, passed.ceiling), omega (arith, passed.ceiling))

    pub move-refused : {why : PlayRefusal} → Says g.width g.height g.board g.moves (Err why)
        → Settles (written g found) (Err (unplayed why)) found
    move-refused case = of_list g found sound terms e (refused-move _ found passed fits case)

    pub goal-refused : {goal : Bool} → Says g.width g.height g.board g.moves (Ok goal) → goal ≡ false
        → Settles (written g found) (Err NotSolved) found
    goal-refused case missed = of_list g found sound terms e (refused-goal _ found passed fits case missed)

    -- the numbers and bytes of the record, as they are put
    abbrev bytes : List ℕ
    bytes =
        pieces (g.width ∷ g.height ∷ []) g.board (terms.ceiling ∷ g.p ∷ g.q ∷ g.visits ∷ length g.moves ∷ []) g.moves

    pub short_record : length bytes ≤ 145
    short_record =
        let limits = limits-kept g.ceiling g.visits g.p g.q (kept g found sound terms e) in
        let weight = weight-passes g.p g.q limits.weight_ok in
        subst (λ b. length b ≤ 145) (body-pieces _ passed)
        (body-most (fields_at g found sound terms e terms.ceiling)
        (record {
          passed = passed;
          p-most = weight.most;
          q-most = omega (arith, weight.order, weight.most);
          visits-most = (budget-passes g.visits limits.budget_ok).1;
          moves-most = ceiling_few.1;
        }))

    module _ {goal : Bool} (case : Says g.width g.height g.board g.moves (Ok goal)) (reached : goal ≡ true) where
      pub room-refused : length found < length (sealed bytes) → Settles (written g found) (Err ShortOutput) found
      room-refused less = of_list g found sound terms e (of_room _ found passed fits case reached (refused-room _ found less))

      pub recorded : {new : List ℕ} {next : ℕ} → length (sealed bytes) ≤ length found → Put (sealed bytes) found 0 new next
          → Settles (written g found) (Ok next) new
      recorded room put = of_list g found sound terms e (of_room _ found passed fits case reached (record_put _ found room put))
