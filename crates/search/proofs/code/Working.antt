-- The loop of the code's `work` against the definition: the definition's turn, the code's pick, the work that makes no visit, the loop's
-- invariant and where it begins, and a turn by the answer of its visit, which is the last or not. Rests on `Outcomes.antt`,
-- `TableRows.antt`, `Successors.antt`, `Ahead.antt` and `Budget.antt`. Assumes nothing.
use Prim.Native.Nat.{ℕ, zero, suc, ◌+◌, ◌*◌, ◌-◌, ◌≤◌, ◌<◌, min}
use mathlib.Core.Path.{◌≡◌, refl, ap, sym, ◌∙◌, subst}
use mathlib.Core.Bool.{true, false}
use mathlib.Core.List.{List}
use native.Mathlib.Numerals.{add-one}
use native.Mathlib.Omega.{arith}
use lib.Dec.{T}
use lib.ListN.{length, take, set, length-set}
use Rattle.board.specs.declared.Shape.{Shape}
use Rattle.board.specs.Moves.{legal}
use Rattle.search.specs.declared.Pick.{Pick}
use Rattle.search.specs.declared.Job.{Job}
use Rattle.search.specs.declared.Out.{Out}
use Rattle.search.specs.declared.Out.TheVariants.{Found, Value, Spent}
use Rattle.search.specs.Row.{infinity, entry, best, second, may_go_on, goes_on, handed_down}
use Rattle.search.specs.Space.{boards}
use Rattle.search.specs.Search.{Outcome, found, value, spent, static, taken_up, turn, work}
use Rattle.search.specs.Run.{row_at, Picks, Open, visited, worked, written, Ran}
use Rattle.search.proofs.theory.Rows.{best-move, best-finite}
use Rattle.search.proofs.theory.Successors.{Legal, best-legal, set-legal}
use Rattle.search.proofs.theory.Ahead.{Past, ReturnsPast, visit-past, least-returned, last-visit, next-least, next-goes-on}
use Rattle.search.proofs.theory.Budget.{Spends, visit_spends}
use Rattle.search.proofs.code.BoardSpace.{passed}
use Rattle.search.proofs.code.TableRows.{lent_row, lent-row, row-set, below_set, row_kept, below-kept}
use Rattle.search.proofs.code.Outcomes.{told-found, told-value, told-spent, ran_for, ran-found, ran-value, ran-spent}

-- a visit to the successor of the board b by the move m, from depth g
abbrev pub visit_from : Job → List ℕ → ℕ → ℕ → ℕ → ℕ → ℕ → Outcome
visit_from job b g m stored bound left = visited job ((boards job.shape).makes b m) m (suc g) stored bound left

-- the visit that a turn on the row r makes
abbrev pub visit_on : Job → List ℕ → ℕ → ℕ → List ℕ → ℕ → Outcome
visit_on job b g bound r left = visit_from job b g (best r).step (best r).value (handed_down bound r) left

-- ---- the definition's turn

module _ (visit_of : ℕ → ℕ → ℕ → ℕ → Outcome) (bound : ℕ) (r : List ℕ) (left : ℕ) where
  work-stops : (turns : ℕ) → left < turns → goes_on bound r ≡ false → work visit_of turns bound r left ≡ value (best r).value left
  unfolding work turn
  work-stops zero h e = absurd (omega arith)
  work-stops (suc turns) h e = rw e

  -- a turn that makes its visit and comes to the whole, with the turns that are left after it
  record Turning (whole : Outcome) : Type 0 where
    further : ℕ
    enough : left ≤ further
    is : taken_up (best r).step r (visit_of (best r).step (best r).value (handed_down bound r) left)
        (λ r' left'. work visit_of further bound r' left') ≡ whole

  work-turns : (whole : Outcome) (turns : ℕ) → left < turns → goes_on bound r ≡ true → work visit_of turns bound r left ≡ whole
      → Turning whole
  unfolding work turn
  work-turns whole zero h e is = absurd (omega arith)
  work-turns whole (suc turns) h e is = record { further = turns; enough = omega arith; is = rw e at is }

-- ---- the code's pick x of the row r, or of the row that was lent

pub picks-lent : (table : List ℕ) (g : ℕ) (x : Pick) → Picks (lent_row table g) x → Picks (row_at table g) x
picks-lent table g x picks = subst (λ (l : List ℕ). Picks l x) (lent-row table g) picks

module _ (r : List ℕ) (x : Pick) (picks : Picks r x) where
  pub picked_move : x.step < 4
  picked_move = subst (λ (m : ℕ). m < 4) (sym picks.is_best) (best-move r)

  pub picked_legal : (s : Shape) (b : List ℕ) (bound : ℕ) → Legal (boards s) b r → goes_on bound r ≡ true → legal s b x.step ≡ true
  picked_legal s b bound is_open on =
      passed (legal s b x.step) (subst (λ (m : ℕ). T (legal s b m)) (sym picks.is_best) (best-legal (boards s) b bound r is_open on))

  -- the code's call is the visit that a turn makes
  pub called : (job : Job) (b next : List ℕ) (g bound least down left : ℕ) {table moves : List ℕ} {o : Out} {table' moves' : List ℕ}
      → next ≡ (boards job.shape).makes b x.step → least ≡ (best r).value → down ≡ min bound x.second
      → Ran (g + 1) (visited job next x.step (g + 1) least down left) table moves o table' moves'
      → Ran (suc g) (visit_on job b g bound r left) table moves o table' moves'
  unfolding handed_down
  called job b next g bound least down left made is handed ran =
      rw (made, handed, picks.is_second, is, picks.is_best, add-one g) at ran

module _ (job : Job) (b : List ℕ) (g bound : ℕ) (table₀ moves₀ : List ℕ) (left₀ : ℕ) where
  abbrev whole : Outcome
  whole = worked job b g bound (row_at table₀ g) left₀

  -- ---- the least F stops the work at once: no visit is made

  pub none_made : (least : ℕ) → least ≡ (best (row_at table₀ g)).value → may_go_on bound least ≡ false
      → Ran g whole table₀ moves₀ (Value least left₀) table₀ moves₀
  unfolding goes_on
  none_made least is stop =
      let ended = work-stops (visit_from job b g) bound (row_at table₀ g) left₀ (suc left₀) (omega arith) (rw (sym is) stop) in
      rw is (ran_for (sym ended) refl (ran-value g table₀ moves₀ (best (row_at table₀ g)).value left₀))

  -- ---- the loop's invariant: what is left to do comes to the whole, and a visit is made next

  pub record Working (table moves : List ℕ) (left least : ℕ) : Type 0 where
    pub rows : length table ≡ length table₀
    pub below : take (4 * g) table ≡ take (4 * g) table₀
    pub path : moves ≡ moves₀
    pub is_open : Open job b (row_at table g)
    pub is_least : least ≡ (best (row_at table g)).value
    pub on : goes_on bound (row_at table g) ≡ true
    pub turns : ℕ
    pub enough : left < turns
    pub rest : work (visit_from job b g) turns bound (row_at table g) left ≡ worked job b g bound (row_at table₀ g) left₀

  pub begins : (least : ℕ) → least ≡ (best (row_at table₀ g)).value → may_go_on bound least ≡ true → Open job b (row_at table₀ g)
      → Working table₀ moves₀ left₀ least
  unfolding goes_on
  begins least is on is_open =
      record {
        rows = refl;
        below = refl;
        path = refl;
        is_open = is_open;
        is_least = is;
        on = rw (sym is) on;
        turns = suc left₀;
        enough = omega arith;
        rest = refl;
      }

  -- ---- a turn's visit, by the pick x, which gave the answer o and left the buffers table' and moves'

  pub record VisitMade (table moves : List ℕ) (left least : ℕ) (x : Pick) (o : Out) (table' moves' : List ℕ) : Type 0 where
    pub working : Working table moves left least
    pub picks : Picks (row_at table g) x
    pub ran : Ran (suc g) (visit_on job b g bound (row_at table g) left) table moves o table' moves'
    pub rows : length table' ≡ length table

  -- the code's call, at the loop's head, is such a visit
  pub as_made : {table moves : List ℕ} {left least : ℕ} {x : Pick} {next : List ℕ} {down : ℕ} {o : Out} {table' moves' : List ℕ}
      → Working table moves left least
      → Picks (lent_row table g) x
      → next ≡ (boards job.shape).makes b x.step
      → down ≡ min bound x.second
      → Ran (g + 1) (visited job next x.step (g + 1) least down left) table moves o table' moves'
      → length table' ≡ length table
      → VisitMade table moves left least x o table' moves'
  as_made {table = table} {left = left} {least = least} {x = x} {next = next} {down = down} working lent makes handed ran rows =
      let picks = picks-lent table g x lent in
      record {
        working = working;
        picks = picks;
        ran = called (row_at table g) x picks job b next g bound least down left makes working.is_least handed ran;
        rows = rows;
      }

  module _ (table moves : List ℕ) (left least : ℕ) (x : Pick) (o : Out) (table' moves' : List ℕ)
      (made : VisitMade table moves left least x o table' moves') where
    abbrev row : List ℕ
    row = row_at table g

    abbrev move : ℕ
    move = (best row).step

    abbrev outcome : Outcome
    outcome = visit_on job b g bound row left

    turning : Turning (visit_from job b g) bound row left whole
    turning =
        work-turns (visit_from job b g) bound row left whole made.working.turns made.working.enough made.working.on
        made.working.rest

    -- what the visit came to settles the whole, and the moves
    taken : (is : Outcome) → outcome ≡ is
        → taken_up move row is (λ r' left'. work (visit_from job b g) turning.further bound r' left') ≡ whole
    taken is e =
        ap (λ (is' : Outcome). taken_up move row is' (λ r' left'. work (visit_from job b g) turning.further bound r' left')) (sym e)
        ∙ turning.is

    path-is : (is : Outcome) → outcome ≡ is → moves' ≡ written (suc g) is moves₀
    path-is is e =
        made.ran.path ∙ ap (λ (is' : Outcome). written (suc g) is' moves) e ∙ ap (written (suc g) is) made.working.path

    rows-below : take (4 * g) table' ≡ take (4 * g) table₀
    rows-below = below-kept table table' g made.ran.below ∙ made.working.below

    pub found-ends : (n rest : ℕ) → o ≡ Found n rest → g < length moves₀
        → Ran g whole table₀ moves₀ (Found n rest) table' (set moves' g x.step)
    unfolding taken_up
    found-ends n rest e inside =
        let path = told-found (suc g) outcome n rest (sym made.ran.answer ∙ e) in
        rw (made.picks.is_best, path-is (found path.moves rest) path.is)
        (ran_for (taken (found path.moves rest) path.is) refl
        (ran-found g move path.moves rest n inside path.long rows-below))

    pub spent_ends : o ≡ Spent → Ran g whole table₀ moves₀ Spent table' moves'
    unfolding taken_up written
    spent_ends e =
        let is = told-spent (suc g) outcome (sym made.ran.answer ∙ e) in
        rw (path-is spent is) (ran_for (taken spent is) rows-below (ran-spent g table' moves₀))

    module _ (v rest : ℕ) (small : v ≤ infinity) (e : o ≡ Value v rest) where
      value-is : outcome ≡ value v rest
      value-is = told-value (suc g) outcome v rest (sym made.ran.answer ∙ e)

      -- each visit counts itself
      pub value-less : rest < left
      value-less =
          subst (Spends left) value-is
          (visit_spends (boards job.shape) (static (boards job.shape) job.weight) job.ceiling (job.ceiling - suc g) (suc g)
          ((boards job.shape).makes b move) move (best row).value (handed_down bound row) left)

      -- and returns a value past the bound that it was handed
      value-past : Past (handed_down bound row) v
      value-past =
          subst (ReturnsPast (handed_down bound row)) value-is
          (visit-past (boards job.shape) (static (boards job.shape) job.weight) job.ceiling (job.ceiling - suc g) (suc g)
          ((boards job.shape).makes b move) move (best row).value (handed_down bound row) left)

      finite : entry row move < infinity
      finite = best-finite row bound made.working.on

      -- what comes of the row with the value in it is the whole
      further : work (visit_from job b g) turning.further bound (set row move v) rest ≡ whole
      unfolding taken_up
      further = taken (value v rest) value-is

      enough : rest < turning.further
      enough = omega (arith, value-less, turning.enough)

      -- ---- the second least stops the work: this visit was the last

      pub last-ends : may_go_on bound x.second ≡ false → (answer : ℕ) → answer ≡ min v x.second
          → Ran g whole table₀ moves₀ (Value answer rest) table' moves'
      unfolding written
      last-ends stop answer is =
          let stopped = last-visit row finite v small bound value-past (rw (sym made.picks.is_second) stop) in
          let ended = work-stops (visit_from job b g) bound (set row move v) rest turning.further enough stopped in
          let least' : answer ≡ (best (set row move v)).value =
          is ∙ ap (min v) made.picks.is_second ∙ sym (least-returned row finite v small) in
          rw (least', path-is (value v rest) value-is)
          (ran_for (sym ended ∙ further) rows-below (ran-value g table' moves₀ (best (set row move v)).value rest))

      -- ---- it does not: it is the least F of the row with the value in it

      row_is : row_at (set table' (4 * g + move) v) g ≡ set row move v
      row_is =
          row-set table' g move v (best-move row) ∙ ap (λ (l : List ℕ). set l move v) (row_kept table table' g made.ran.below)

      pub value-goes-on : may_go_on bound x.second ≡ true → Working (set table' (4 * g + x.step) v) moves' rest x.second
      unfolding written
      value-goes-on on =
          let on' : may_go_on bound (second row) ≡ true = rw (sym made.picks.is_second) on in
          rw (made.picks.is_best, made.picks.is_second)
          (record {
            rows = length-set table' (4 * g + move) v ∙ made.rows ∙ made.working.rows;
            below = below_set table' g move v ∙ rows-below;
            path = path-is (value v rest) value-is;
            is_open = subst (Open job b) (sym row_is) (set-legal (boards job.shape) b row move v finite made.working.is_open);
            is_least = sym (ap (λ (l : List ℕ). (best l).value) row_is ∙ next-least row finite v small bound value-past on');
            on = ap (goes_on bound) row_is ∙ next-goes-on row finite v small bound value-past on';
            turns = turning.further;
            enough = enough;
            rest = ap (λ (l : List ℕ). work (visit_from job b g) turning.further bound l rest) row_is ∙ further;
          })
