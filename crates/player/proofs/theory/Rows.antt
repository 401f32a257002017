-- Lists worked by hand, as one computed statement over a list of cases: the document's plans, each played on its own board, and a
-- refusal of each kind. Assumes nothing.
use Prim.Native.Nat.{ℕ}
use mathlib.Core.Path.{◌≡◌, refl}
use mathlib.Core.Bool.{true, false}
use mathlib.Core.List.{List, [], ◌∷◌, map}
use Rattle.board.specs.declared.Fault.TheVariants.{BadShape, BadLength, TooLarge, Repeated}
use Rattle.board.specs.First.{first_of}
use Rattle.board.specs.Board.{empty_cell, is_goal}
use Rattle.board.specs.Moves.{stays_on, leads_to, legal, slide, after}
use Rattle.board.specs.Tests.{first_refusal}
use Rattle.board.specs.Faults.{tested, said_of, fault_tests, first_too_large, first_holding, repeats, first_repeat}
use Rattle.player.specs.declared.PlayRefusal.TheVariants.{Board, ShortOutput, NoMove, OffGrid}
use Rattle.player.specs.Play.{Played}
use Rattle.std.specs.Prelude.{Ok, Err}
use Rattle.player.specs.Play.{answer_for, answer_after, answer_on, comes_to, first_bad, bad_move}

-- a call, and the answer that it must get
pub record Row : Type 0 where
  pub width : ℕ
  pub height : ℕ
  pub board : List ℕ
  pub moves : List ℕ
  pub room : ℕ
  pub expected : Played

abbrev row : ℕ → ℕ → List ℕ → List ℕ → ℕ → Played → Row
row w h b ms room e = record { width = w; height = h; board = b; moves = ms; room = room; expected = e }

abbrev up : ℕ
up = 0

abbrev left : ℕ
left = 1

abbrev right : ℕ
right = 2

abbrev down : ℕ
down = 3

abbrev pub rows : List Row
rows =
    row 2 2 (0 ∷ 1 ∷ 2 ∷ 3 ∷ []) [] 4 (Ok true)
    ∷ row 2 2 (1 ∷ 0 ∷ 2 ∷ 3 ∷ []) (left ∷ []) 4 (Ok true)
    ∷ row 2 2 (3 ∷ 2 ∷ 1 ∷ 0 ∷ []) (up ∷ left ∷ down ∷ right ∷ up ∷ left ∷ []) 4 (Ok true)
    ∷ row 2 2 (3 ∷ 2 ∷ 1 ∷ 0 ∷ []) (left ∷ up ∷ right ∷ down ∷ left ∷ up ∷ []) 4 (Ok true)
    ∷ row 2 2 (0 ∷ 3 ∷ 1 ∷ 2 ∷ []) (down ∷ right ∷ up ∷ left ∷ []) 4 (Ok true)
    ∷ row 2 2 (0 ∷ 3 ∷ 1 ∷ 2 ∷ []) (down ∷ right ∷ up ∷ []) 4 (Ok false)
    ∷ row 5 2 (0 ∷ []) (4 ∷ []) 0 (Err (Board BadShape))
    ∷ row 3 2 (0 ∷ 1 ∷ 2 ∷ 3 ∷ 4 ∷ []) (4 ∷ []) 0 (Err (Board BadLength))
    ∷ row 2 2 (0 ∷ 1 ∷ 1 ∷ 4 ∷ []) (4 ∷ []) 0 (Err (Board (TooLarge 3)))
    ∷ row 2 2 (0 ∷ 1 ∷ 1 ∷ 3 ∷ []) (4 ∷ []) 0 (Err (Board (Repeated 2)))
    ∷ row 2 2 (0 ∷ 1 ∷ 2 ∷ 3 ∷ []) (up ∷ []) 3 (Err ShortOutput)
    ∷ row 2 2 (0 ∷ 1 ∷ 2 ∷ 3 ∷ []) (right ∷ down ∷ 4 ∷ left ∷ []) 4 (Err (NoMove 2))
    ∷ row 2 2 (0 ∷ 1 ∷ 2 ∷ 3 ∷ []) (right ∷ right ∷ 4 ∷ []) 4 (Err (OffGrid 1))
    ∷ []

pub worked : map (λ r. answer_for r.width r.height r.board r.moves r.room) rows ≡ map (λ r. r.expected) rows
unfolding answer_after answer_on comes_to first_bad bad_move tested said_of fault_tests first_refusal first_too_large first_holding
    repeats first_repeat first_of empty_cell is_goal stays_on leads_to legal slide after
worked = refl
