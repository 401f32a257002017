-- `player::play` meets its contract: what tests 1 to 4 say, test 8, and then what the run of the list comes to. Assumes nothing.
use Prim.Native.Nat.{ℕ, ◌≤◌, ◌<◌}
use mathlib.Core.Path.{◌≡◌, refl, sym, ap, ◌∙◌}
use mathlib.Core.List.{List, ◌++◌}
use native.Mathlib.Omega.{arith}
use lib.ListN.{length, drop}
use borrow.Author.Tests.{lt-ltb, le-ltb}
use Rattle.std.proofs.lemmas.Result.{err_from_is_err_and}
use Rattle.std.specs.Prelude.{Bool, Ok, Err}
use Rattle.board.specs.declared.Shape.{Shape}
use Rattle.board.specs.declared.Fault.{Fault}
use Rattle.board.specs.Shape.{cells}
use Rattle.board.specs.Board.{is_goal}
use Rattle.board.specs.Lists.{end_board}
use Rattle.board.specs.Faults.{tested}
use Rattle.board.specs.Held.{held}
use Rattle.board.proofs.Laws.{sound_means, kept-goal}
use Rattle.player.specs.declared.PlayRefusal.{PlayRefusal}
use Rattle.player.specs.declared.PlayRefusal.TheVariants.{Board, ShortOutput}
use Rattle.board.specs.declared.Place.{Place}
use Rattle.player.specs.Play.{Played, first_bad, comes_to, answer_on, answer_after, out_after, PlayedAs, PlayedOn}
use Rattle.player.specs.Run.{RanThrough, Stopped}
use Rattle.player.proofs.play.Goals as goal

faulty :
    (w h : ℕ) (b moves found : List ℕ) (fault : Fault)
    → tested w h b ≡ Err fault
    → PlayedAs w h b moves found (Err (Board fault)) found
unfolding answer_after out_after
faulty w h b moves found fault e = record { answers = rw e refl; leaves = refl }

-- what follows the tests 1 to 4
sound :
    (w h : ℕ) (b moves found : List ℕ) (s : Shape) (r : Played) (out : List ℕ)
    → tested w h b ≡ Ok s
    → PlayedOn s b moves found r out
    → PlayedAs w h b moves found r out
unfolding answer_after
sound w h b moves found s r out e on = record {
  answers = rw e on.answers;
  leaves = on.leaves ∙ ap (λ t. out_after r (end_board t b moves) found) (sound_means w h b s e).0;
}

short : (s : Shape) (b moves found : List ℕ) → length found < cells s → PlayedOn s b moves found (Err ShortOutput) found
unfolding answer_on out_after
short s b moves found less = record { answers = rw (lt-ltb _ _ less) refl; leaves = refl }

module _ (s : Shape) (b moves found : List ℕ) (room : cells s ≤ length found) where
  -- the run stopped at a bad move
  one-bad : (why : PlayRefusal) → Stopped s b moves why → PlayedOn s b moves found (Err why) found
  unfolding answer_on comes_to out_after
  one-bad why stopped = record {
    answers = rw (le-ltb (length found) (cells s) room, lt-ltb _ _ stopped.inside) (ap Err stopped.refused);
    leaves = refl;
  }

  -- the whole list was played
  all-good : (ran : Place) (says : Bool) (out : List ℕ) → RanThrough s b moves ran → says ≡ is_goal s (held s ran.position)
      → out ≡ held s ran.position ++ drop (cells s) found → PlayedOn s b moves found (Ok says) out
  unfolding answer_on comes_to out_after
  all-good ran says out through goal put = record {
    answers =
        rw (le-ltb (length found) (cells s) room, le-ltb (first_bad s b moves) (length moves) (omega (arith, through.none_bad)))
        (ap Ok (goal ∙ ap (is_goal s) through.end.same));
    leaves =
        put
        ∙ ap (λ n. held s ran.position ++ drop n found) (sym through.end.holds.board.long)
        ∙ ap (λ end. end ++ drop (length end) found) through.end.same;
  }

pub returns-in_err-shape : goal.returns-in_err-shape
returns-in_err-shape c =
    let p = err_from_is_err_and c.from_residual.result c.from_residual.ensures.1 in
    rw (p.1, p.2) (faulty _ _ _ _ _ _ (sym c.tested.ensures ∙ c.in_err-shape.was))

pub cell_count-requires : goal.cell_count-requires
cell_count-requires c =
    (sound_means _ _ _ _ (sym c.tested.ensures ∙ c.in_ok-shape.was)).1

pub returns-then-out-cell_count : goal.returns-then-out-cell_count
returns-then-out-cell_count c =
    sound _ _ _ _ _ _ _ _ (sym c.tested.ensures ∙ c.in_ok-shape.was)
    (short _ _ _ _ (rw (← c.cell_count.ensures) c.if-out-cell_count.true))

pub hold-start-requires-clause-good_shape : goal.hold-start-requires-clause-good_shape
hold-start-requires-clause-good_shape c =
    (sound_means _ _ _ _ (sym c.tested.ensures ∙ c.in_ok-shape.was)).1

pub hold-start-requires-clause-board : goal.hold-start-requires-clause-board
hold-start-requires-clause-board c =
    (sound_means _ _ _ _ (sym c.tested.ensures ∙ c.in_ok-shape.was)).2

pub returns-in_err-end : goal.returns-in_err-end
returns-in_err-end c =
    let p = err_from_is_err_and c.from_residual-in_err-end.result c.from_residual-in_err-end.ensures.1 in
    rw (p.1, p.2)
    (sound _ _ _ _ _ _ _ _ (sym c.tested.ensures ∙ c.in_ok-shape.was)
    (one-bad _ _ _ _ (rw (← c.cell_count.ensures) c.if-out-cell_count.false) _
    (rw (c.new-cabinet.ensures, c.hold-start.ensures.same) at c.in_err-end.ensures)))

pub returns : goal.returns
returns c =
    let through = rw (c.new-cabinet.ensures, c.hold-start.ensures.same) at c.in_ok-end.ensures in
    sound _ _ _ _ _ _ _ _ (sym c.tested.ensures ∙ c.in_ok-shape.was)
    (all-good _ _ _ _ (rw (← c.cell_count.ensures) c.if-out-cell_count.false) _ _ _ through
    (sym (kept-goal _ _ _ through.kept)) c.put.ensures)
