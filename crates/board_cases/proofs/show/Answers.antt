-- `board_cases::show` is safe and ends: what passes tests 1 to 4 is a good shape and a board of it.
-- Assumes nothing.
use Rattle.std.proofs.Common.{sym, ◌∙◌}
use Rattle.board.proofs.Laws.{sound_means}
use Rattle.board_cases.proofs.show.Goals as goal

pub show_sound-requires-clause-good_shape : goal.show_sound-requires-clause-good_shape
show_sound-requires-clause-good_shape g c =
    (sound_means _ _ _ _ (sym c.tested-answer.ensures ∙ c.in-Ok.is)).1

pub show_sound-requires-clause-board : goal.show_sound-requires-clause-board
show_sound-requires-clause-board g c =
    (sound_means _ _ _ _ (sym c.tested-answer.ensures ∙ c.in-Ok.is)).2
