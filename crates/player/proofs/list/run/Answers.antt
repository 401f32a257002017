-- `player::list::run` meets its contract: the moves passed are good, and the position holds the board that they end at,
-- with its distance. Assumes nothing.
use Prim.Native.Nat.{ℕ, ◌+◌, ◌≤◌, ◌<◌}
use mathlib.Core.Path.{◌≡◌, refl, sym, ap, ap₂, subst, ◌∙◌}
use mathlib.Core.Bool.{Bool, true, false, not}
use mathlib.Core.List.{List}
use native.Mathlib.Omega.{arith}
use native.Mathlib.Numerals.{add-one}
use lib.ListN.{length, take, get_or}
use lib.Seq.{take-length}
use borrow.Author.Count.{below_more}
use Rattle.board.specs.declared.Shape.{Shape}
use Rattle.board.specs.declared.Position.{Position}
use Rattle.board.specs.declared.Place.{Place}
use Rattle.board.specs.Moves.{legal, after}
use Rattle.board.specs.Lists.{end_board}
use Rattle.board.specs.Held.{held, Taken}
use Rattle.board.specs.Change.{LeadsTo}
use Rattle.board.proofs.Laws.{first_of_found, first_of_none}
use Rattle.player.specs.declared.PlayRefusal.{PlayRefusal}
use Rattle.player.specs.Play.{bad_at, first_bad, bad_move}
use Rattle.player.specs.Run.{RanThrough, Stopped}
use Rattle.player.proofs.theory.FirstBad.{end-next}
use Rattle.player.proofs.list.run.Invariants.{Running}
use Rattle.player.proofs.list.run.Goals as goal

module _ (s : Shape) (b moves : List ℕ) (p : Position) (h i m : ℕ) (running : Running s b moves p h i) (byte : m ≡ get_or moves i 0) where
  -- what the test of the move says of its place
  tells : (t : Bool) → legal s (held s p) m ≡ t → bad_at s b moves i ≡ not t
  tells t e = ap not (ap₂ (λ board k. legal s board k) (sym running.at.same) (sym byte) ∙ e)

  goes_on_lem : (r : Place) → i < length moves → legal s (held s p) m ≡ true → LeadsTo s (held s p) m r
      → Running s b moves r.position r.h (i + 1)
  goes_on_lem r below e leads = record {
    within = omega arith;
    good = below_more _ _ running.good (tells true e);
    at = subst (λ board. Taken s board r.position) made leads.position;
    kept = leads.kept;
  }
    where
      made : after s (held s p) m ≡ end_board s b (take (i + 1) moves)
      made =
          rw add-one
          (ap₂ (λ board k. after s board k) running.at.same byte
          ∙ sym (end-next s b moves i below))

  stops : {why : PlayRefusal} {place : ℕ} → i < length moves → legal s (held s p) m ≡ false → why ≡ bad_move (get_or moves i 0) place
      → place ≡ i → Stopped s b moves why
  unfolding first_bad
  stops below e told is-i =
      record { inside = omega (arith, here); refused = rw (← here) (told ∙ ap (bad_move (get_or moves i 0)) is-i) }
    where
      here : i ≡ first_bad s b moves
      here =
          sym
          (first_of_found (bad_at s b moves) 0 (length moves) i (omega arith) (omega arith) (λ j low h. running.good j h)
          (tells false e))

ends :
    (s : Shape) (b moves : List ℕ) (p : Position) (h i : ℕ)
    → Running s b moves p h i
    → length moves ≤ i
    → RanThrough s b moves (record { position = p; h = h })
unfolding first_bad
ends s b moves p h i running past = record {
  none_bad = omega (arith, first_of_none (bad_at s b moves) 0 (length moves) (λ j low l. running.good j (omega arith)));
  end =
      subst (λ board. Taken s board p) (ap (λ n. end_board s b (take n moves)) whole ∙ ap (end_board s b) (take-length moves))
      running.at;
  kept = running.kept;
}
  where
    whole : i ≡ length moves
    whole = omega (arith, running.within)

pub loop-i-init : goal.loop-i-init
loop-i-init c =
    let pre = c.requires in
    record {
      within = omega arith;
      good = λ j h. absurd (omega arith);
      at = record { same = refl; holds = pre.holds };
      kept = pre;
    }

pub legal-requires : goal.legal-requires
legal-requires c =
    c.loop-i.invariant.at.holds

pub returns-then-not-legal : goal.returns-then-not-legal
returns-then-not-legal c =
    stops _ _ _ _ _ _ _ c.loop-i.invariant c.from-m.ensures c.loop-i-test.true (sym c.legal.ensures ∙ c.if-not-legal.true)
    c.refused_move.ensures (omega arith)

pub loop-i-preserved : goal.loop-i-preserved
loop-i-preserved c =
    goes_on_lem _ _ _ _ _ _ _ c.loop-i.invariant c.from-m.ensures _ c.loop-i-test.true (sym c.legal.ensures ∙ c.if-not-legal.false)
    c.go-at.ensures

pub returns : goal.returns
returns c =
    ends _ _ _ _ _ _ c.loop-i.invariant c.loop-i-test.false
