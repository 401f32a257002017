-- What the run of a list is asked for: where no move is bad, a position that holds the end board, its distance kept; and else why the first
-- bad move is refused. Assumes nothing.
use Rattle.std.specs.Prelude.{ℕ, ◌<◌, ◌≡◌, List, length, get_or, Result, MatchResult}
use Rattle.board.specs.declared.Shape.{Shape}
use Rattle.board.specs.declared.Place.{Place}
use Rattle.board.specs.Lists.{end_board}
use Rattle.board.specs.Held.{Taken}
use Rattle.board.specs.Change.{Kept}
use Rattle.player.specs.declared.PlayRefusal.{PlayRefusal}
use Rattle.player.specs.Play.{first_bad, bad_move}

pub record RanThrough (s : Shape) (b moves : List ℕ) (r : Place) : Type 0 where
  pub none_bad : first_bad s b moves ≡ length moves
  pub end : Taken s (end_board s b moves) r.position
  pub kept : Kept s r.position r.h

pub record Stopped (s : Shape) (b moves : List ℕ) (why : PlayRefusal) : Type 0 where
  pub inside : first_bad s b moves < length moves
  pub refused : why ≡ bad_move (get_or moves (first_bad s b moves) 0) (first_bad s b moves)

abbrev pub RanAs : Shape → List ℕ → List ℕ → Result Place PlayRefusal → Type 0
RanAs s b moves r = MatchResult r (RanThrough s b moves) (Stopped s b moves)
