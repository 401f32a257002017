-- An answer's fields: the paper's number (0 where the list was played), the cell of 3 and 4 or the place of 13 and 14 (else 0),
-- and whether the end board is the goal. One function a field, one line a case. Assumes nothing.
use Rattle.std.specs.Prelude.{ℕ, Bool, false}
use Rattle.board.specs.Faults.{fault_number, fault_cell}
use Rattle.board.specs.Numbered.{of_refused}
use Rattle.player.specs.declared.PlayRefusal.{PlayRefusal}
use Rattle.player.specs.declared.PlayRefusal.TheVariants.{Board, ShortOutput, NoMove, OffGrid}
use Rattle.player.specs.Play.{Played}
use Rattle.std.specs.Prelude.{Ok, Err}

abbrev pub refusal_number : PlayRefusal → ℕ
refusal_number (Board fault) = fault_number fault
refusal_number ShortOutput = 8
refusal_number (NoMove i) = 13
refusal_number (OffGrid i) = 14

abbrev pub refusal_place : PlayRefusal → ℕ
refusal_place (Board fault) = fault_cell fault
refusal_place ShortOutput = 0
refusal_place (NoMove i) = i
refusal_place (OffGrid i) = i

abbrev pub answer_number : Played → ℕ
answer_number answer = of_refused refusal_number answer

abbrev pub answer_place : Played → ℕ
answer_place answer = of_refused refusal_place answer

abbrev pub says_goal : Played → Bool
says_goal (Ok goal) = goal
says_goal (Err why) = false
