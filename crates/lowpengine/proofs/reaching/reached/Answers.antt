-- `lowpengine::reaching::reached` meets its contract: what tests 1 to 4 say, and then 9 of the board that is held. Assumes nothing.
use mathlib.Core.Path.{sym, ◌∙◌}
use Rattle.board.proofs.Laws.{sound_means}
use Rattle.lowpengine.proofs.reaching.reached.Goals as goal

pub hold-requires-clause-good_shape : goal.hold-requires-clause-good_shape
hold-requires-clause-good_shape c =
    (sound_means _ _ _ _ (sym c.tested.ensures ∙ c.in_ok-shape.was)).1

pub hold-requires-clause-board : goal.hold-requires-clause-board
hold-requires-clause-board c =
    (sound_means _ _ _ _ (sym c.tested.ensures ∙ c.in_ok-shape.was)).2

pub returns-then-is_odd : goal.returns-then-is_odd
returns-then-is_odd c =
    rw (sym c.tested.ensures ∙ c.in_ok-shape.was, ← c.hold.ensures.same, sym c.is_odd.ensures ∙ c.if-is_odd.true)
