-- Searches that tell slips in the definitions apart, computed by one statement over a list of cases: never inheriting, inheriting
-- where f = F, handing down the bound alone, equal F by the higher move number or by the latest return, and four about the ceiling.
-- A row is: width, height, board, weight, ceiling, budget; and how the search ends, its moves by name. The rows that document 01
-- works by hand are whole answers, and stand where those are defined. Assumes nothing.
use Prim.Native.Nat.{ℕ}
use mathlib.Core.Path.{◌≡◌, refl}
use mathlib.Core.List.{List, [], ◌∷◌, map}
use Rattle.board.specs.First.{first_of}
use Rattle.board.specs.Board.{empty_cell, is_goal}
use Rattle.board.specs.Moves.{stays_on, leads_to, legal, slide, after}
use Rattle.board.specs.Distance.{tray_distance, distance_from, distance}
use Rattle.search.specs.declared.Job.{Job}
use Rattle.search.specs.Row.{infinity, better, best_of, best, masked, second, may_go_on, goes_on, handed_down, first_stored, above_ceiling}
use Rattle.search.specs.Search.{Outcome, found, value, spent}
use Rattle.search.specs.Search.{static, taken_up, turn, work, unless_goal, is_successor, first_entry, first_row, visit, search}
use Rattle.search.specs.Run.{of_job}

-- the four moves
abbrev up : ℕ
up = 0

abbrev left : ℕ
left = 1

abbrev right : ℕ
right = 2

abbrev down : ℕ
down = 3

pub record Row : Type 0 where
  pub job : Job
  pub board : List ℕ
  pub budget : ℕ
  -- how the search must end
  pub ends : Outcome

abbrev row : ℕ → ℕ → List ℕ → ℕ → ℕ → ℕ → ℕ → Outcome → Row
row width height b p q ceiling budget end =
    record {
      job = record { shape = record { width = width; height = height }; weight = record { p = p; q = q }; ceiling = ceiling };
      board = b;
      budget = budget;
      ends = end;
    }

-- the second number of an end is what is left of the budget. Beside each row: its visits, and what the slips make of it
pub rows : List Row
rows =
    -- 13; 14 never inheriting, 10 handing down the bound alone, 12 with equal F by the higher move number
    row 3 2 (0 ∷ 2 ∷ 4 ∷ 3 ∷ 1 ∷ 5 ∷ []) 1 1 8 20 (value infinity 7)
    -- 5; 6 inheriting where f = F, and infinity after 1 where f is held against the ceiling
    ∷ row 3 2 (3 ∷ 1 ∷ 0 ∷ 4 ∷ 5 ∷ 2 ∷ []) 3 1 6 20 (found (down ∷ left ∷ left ∷ up ∷ []) 15)
    -- 15; 14 with equal F by the latest return, 11 by the higher move number
    ∷ row 3 2 (3 ∷ 1 ∷ 5 ∷ 2 ∷ 0 ∷ 4 ∷ []) 1 1 8 20
    (found (left ∷ up ∷ right ∷ down ∷ right ∷ up ∷ left ∷ left ∷ []) 5)
    -- 20; 19 with equal F by the latest return
    ∷ row 2 3 (1 ∷ 5 ∷ 0 ∷ 2 ∷ 3 ∷ 4 ∷ []) 1 1 9 20
    (found (right ∷ up ∷ left ∷ down ∷ down ∷ right ∷ up ∷ left ∷ up ∷ []) 0)
    -- 16; 19 where only a successor that inherits nothing is held against the ceiling
    ∷ row 3 2 (5 ∷ 1 ∷ 0 ∷ 3 ∷ 4 ∷ 2 ∷ []) 2 1 8 20 (value infinity 4)
    -- 7, and so not with 6; infinity after 1 where g + h at the ceiling is cut
    ∷ row 3 2 (1 ∷ 0 ∷ 5 ∷ 3 ∷ 2 ∷ 4 ∷ []) 1 1 5 20 (found (down ∷ right ∷ up ∷ left ∷ left ∷ []) 13)
    ∷ row 3 2 (1 ∷ 0 ∷ 5 ∷ 3 ∷ 2 ∷ 4 ∷ []) 1 1 5 6 spent
    -- the distance is above the ceiling: 1, at every budget; none where the start is cut too
    ∷ row 2 2 (3 ∷ 2 ∷ 1 ∷ 0 ∷ []) 1 1 5 11 (value infinity 10)
    ∷ row 2 2 (3 ∷ 2 ∷ 1 ∷ 0 ∷ []) 1 1 5 1 (value infinity 0)
    ∷ row 2 2 (0 ∷ 3 ∷ 1 ∷ 2 ∷ []) 1 1 3 7 (value infinity 6)
    ∷ row 3 2 (0 ∷ 2 ∷ 1 ∷ 3 ∷ 5 ∷ 4 ∷ []) 1 1 2 8 (value infinity 7)
    ∷ []

pub searched : Row → Outcome
searched r = of_job r.job r.board r.budget

pub worked : map searched rows ≡ map (λ r. r.ends) rows
unfolding rows searched first_of empty_cell is_goal stays_on leads_to legal slide after tray_distance distance_from distance
    better best_of best masked second may_go_on goes_on handed_down first_stored above_ceiling static taken_up turn work unless_goal
    is_successor first_entry first_row visit search
worked = refl
