-- The boards worked by hand (document 01, those marked P, with the rows that request E3 amends), computed of the whole answer by one
-- statement over a list of cases; then a board that tells the short call's weight (E7). The buffers hold other numbers than 0 at first,
-- and are long enough. What tells slips in the search apart is computed there. Assumes nothing.
use Prim.Native.Nat.{ℕ}
use mathlib.Core.Path.{◌≡◌, refl}
use mathlib.Core.List.{List, [], ◌∷◌, map}
use lib.IntN.{pos}
use lib.ListN.{length, take, replicate}
use Rattle.board.specs.declared.Fault.TheVariants.{TooLarge, Repeated}
use Rattle.board.specs.First.{first_of}
use Rattle.board.specs.Tests.{first_refusal, under}
use Rattle.board.specs.Board.{empty_cell, is_goal}
use Rattle.board.specs.Moves.{stays_on, leads_to, legal, slide, after}
use Rattle.board.specs.Distance.{tray_distance, distance_from, distance}
use Rattle.board.specs.Parity.{lower, inversions, parity_sum, is_odd}
use Rattle.board.specs.Faults.{first_too_large, first_holding, repeats, first_repeat, fault_tests}
use Rattle.search.specs.Row.{better, best_of, best, masked, second, may_go_on, goes_on, handed_down, first_stored, above_ceiling}
use Rattle.search.specs.Search.{static, taken_up, turn, work, unless_goal, is_successor, first_entry, first_row, visit, search}
use Rattle.planner.specs.declared.Refusal.TheVariants.{Board, OddBoard, NoPlan, OutOfVisits}
use Rattle.planner.specs.Answer.{Answer}
use Rattle.std.specs.Prelude.{Ok, Err}
use Rattle.planner.specs.Limits.{bad_ceiling, ceiling_of, bad_budget, bad_weight, divides_both, shares_divisor, limit_tests}
use Rattle.planner.specs.Answer.{Left}
use Rattle.planner.specs.Answer.{called, short_buffer, last_tests, tests, searched, concluded, after_tests, answered, plan_length}
use Rattle.planner.specs.Short.{called_short}

-- a call at weight 1 over 1, and the answer with its moves that it must get
pub record Row : Type 0 where
  pub width : ℕ
  pub height : ℕ
  pub board : List ℕ
  pub ceiling : ℕ
  pub budget : ℕ
  pub answer : Answer
  pub moves : List ℕ

pub record Seen : Type 0 where
  pub answer : Answer
  pub moves : List ℕ

-- the answer, and the moves of a plan
abbrev of : Left → Seen
of left = record { answer = left.answer; moves = take (plan_length left.answer) left.moves }

-- what the call gives, with buffers of 120 and 484 that are filled with other numbers
pub seen : Row → Seen
seen r = of (answered (called r.width r.height r.board (pos r.ceiling) r.budget 1 1 (replicate 120 7) (replicate 484 9)))

pub expected : Row → Seen
expected r = record { answer = r.answer; moves = r.moves }

-- a row that ends with a plan, in so many visits; one that is refused; each on a cabinet of the width, two high
plans : ℕ → List ℕ → ℕ → ℕ → List ℕ → ℕ → Row
plans w b ceiling budget ms visits =
    record {
      width = w;
      height = 2;
      board = b;
      ceiling = ceiling;
      budget = budget;
      answer = Ok (record { length = length ms; visits = visits });
      moves = ms;
    }

refuses : ℕ → List ℕ → ℕ → ℕ → Answer → Row
refuses w b ceiling budget answer =
    record { width = w; height = 2; board = b; ceiling = ceiling; budget = budget; answer = answer; moves = [] }

abbrev up : ℕ
up = 0

abbrev left : ℕ
left = 1

abbrev right : ℕ
right = 2

abbrev down : ℕ
down = 3

pub rows : List Row
rows =
    plans 2 (0 ∷ 1 ∷ 2 ∷ 3 ∷ []) 0 1 [] 1
    ∷ plans 2 (1 ∷ 0 ∷ 2 ∷ 3 ∷ []) 1 2 (left ∷ []) 2
    ∷ refuses 2 (1 ∷ 0 ∷ 2 ∷ 3 ∷ []) 1 1 (Err (OutOfVisits 1))
    ∷ refuses 2 (1 ∷ 0 ∷ 2 ∷ 3 ∷ []) 0 1 (Err (NoPlan 1))
    ∷ plans 2 (3 ∷ 2 ∷ 1 ∷ 0 ∷ []) 6 7 (up ∷ left ∷ down ∷ right ∷ up ∷ left ∷ []) 7
    ∷ refuses 2 (3 ∷ 2 ∷ 1 ∷ 0 ∷ []) 5 11 (Err (NoPlan 1))
    ∷ refuses 2 (3 ∷ 2 ∷ 1 ∷ 0 ∷ []) 5 10 (Err (NoPlan 1))
    ∷ plans 2 (0 ∷ 3 ∷ 1 ∷ 2 ∷ []) 4 5 (down ∷ right ∷ up ∷ left ∷ []) 5
    ∷ refuses 2 (0 ∷ 3 ∷ 1 ∷ 2 ∷ []) 3 7 (Err (NoPlan 1))
    ∷ refuses 3 (0 ∷ 2 ∷ 1 ∷ 3 ∷ 5 ∷ 4 ∷ []) 2 8 (Err (NoPlan 1))
    ∷ refuses 3 (0 ∷ 2 ∷ 1 ∷ 3 ∷ 5 ∷ 4 ∷ []) 2 7 (Err (NoPlan 1))
    ∷ refuses 2 (0 ∷ 2 ∷ 1 ∷ 3 ∷ []) 6 9 (Err OddBoard)
    ∷ refuses 2 (0 ∷ 1 ∷ 1 ∷ 4 ∷ []) 6 9 (Err (Board (TooLarge 3)))
    ∷ refuses 2 (0 ∷ 1 ∷ 1 ∷ 3 ∷ []) 6 9 (Err (Board (Repeated 2)))
    ∷ []

pub worked : map seen rows ≡ map expected rows
unfolding seen expected plans refuses rows first_of first_refusal under empty_cell is_goal stays_on leads_to legal slide after tray_distance
    distance_from distance lower inversions parity_sum is_odd first_too_large first_holding repeats first_repeat fault_tests better
    best_of best masked second may_go_on goes_on handed_down first_stored above_ceiling static taken_up turn work unless_goal
    is_successor first_entry first_row visit search bad_ceiling ceiling_of bad_budget bad_weight divides_both shares_divisor
    limit_tests short_buffer last_tests tests searched concluded after_tests answered
worked = refl

-- the short call: twelve moves where a shortest list has ten, in 18 visits; at 1 over 1 these would be 20
pub seen_short : Row → Seen
seen_short r =
    of (answered (called_short r.width r.height r.board (pos r.ceiling) r.budget (replicate 120 7) (replicate 484 9)))

pub short_row : Row
short_row =
    record {
      width = 2;
      height = 3;
      board = 5 ∷ 2 ∷ 1 ∷ 0 ∷ 3 ∷ 4 ∷ [];
      ceiling = 20;
      budget = 18;
      answer = Ok (record { length = 12; visits = 18 });
      moves =
          up ∷ left ∷ down ∷ right ∷ up ∷ left ∷ down ∷ down ∷ right ∷ up ∷ left ∷ up ∷ [];
    }

pub short-worked : seen_short short_row ≡ expected short_row
unfolding seen_short expected short_row first_of first_refusal under empty_cell is_goal stays_on leads_to legal slide after tray_distance
    distance_from distance lower inversions parity_sum is_odd first_too_large first_holding repeats first_repeat fault_tests better
    best_of best masked second may_go_on goes_on handed_down first_stored above_ceiling static taken_up turn work unless_goal
    is_successor first_entry first_row visit search bad_ceiling ceiling_of bad_budget bad_weight divides_both shares_divisor
    limit_tests short_buffer last_tests tests searched concluded after_tests answered
short-worked = refl
