-- Rows computed of the definitions: FNV-1a of no bytes, of `a` and of `foobar`, as its authors publish them; numbers of one group up to
-- five; a record worked by hand; then calls, each with its answer: that record, the longest there is, and a refusal of each number.
-- Assumes nothing.
use Prim.Native.Nat.{ℕ, zero, suc}
use mathlib.Core.Path.{◌≡◌, refl}
use mathlib.Core.List.{List, [], ◌∷◌, map}
use lib.IntN.{pos, negsuc}
use lib.ListN.{replicate}
use Rattle.std.specs.Prelude.{Result, Ok, Err}
use Rattle.board.specs.declared.Fault.TheVariants.{BadShape, BadLength, TooLarge, Repeated}
use Rattle.board.specs.First.{first_of}
use Rattle.board.specs.Board.{empty_cell, is_goal}
use Rattle.board.specs.Moves.{stays_on, leads_to, legal, slide, after}
use Rattle.board.specs.Tests.{first_refusal, under}
use Rattle.board.specs.Faults.{fault_tests, first_too_large, first_holding, repeats, first_repeat}
use Rattle.planner.specs.declared.Limit.TheVariants.{BadCeiling, BadBudget, BadWeight, NotLowest}
use Rattle.planner.specs.Limits.{bad_ceiling, ceiling_of, bad_budget, bad_weight, divides_both, shares_divisor, limit_tests}
use Rattle.player.specs.Play.{first_bad, bad_move}
use Rattle.records.specs.declared.PlanRefusal.{PlanRefusal}
use Rattle.records.specs.declared.PlanRefusal.TheVariants.{Board, Beyond, TooLong, NoMove, OffGrid, NotSolved, ShortOutput}
use Rattle.records.specs.Groups.{leading_of, leading, groups, spelled}
use Rattle.records.specs.Mark.{mark_step, mark_from, mark}
use Rattle.records.specs.Record.{body, sealed, record_of}
use Rattle.records.specs.Write.{Given, given, fields_of, list_tests, plan_tests, write_tests, leaves, written}

abbrev texts : List (List ℕ)
texts = [] ∷ (97 ∷ []) ∷ (102 ∷ 111 ∷ 111 ∷ 98 ∷ 97 ∷ 114 ∷ []) ∷ []

-- 0x811c9dc5, 0xe40c292c, 0xbf9cf968
pub marks : map mark texts ≡ 2166136261 ∷ 3826002220 ∷ 3214735720 ∷ []
unfolding mark mark_from mark_step
marks = refl

pub grouped : map groups (0 ∷ 127 ∷ 128 ∷ 1000000 ∷ 4294967295 ∷ [])
    ≡ (0 ∷ []) ∷ (127 ∷ []) ∷ (129 ∷ 0 ∷ []) ∷ (189 ∷ 132 ∷ 64 ∷ []) ∷ (143 ∷ 255 ∷ 255 ∷ 255 ∷ 127 ∷ []) ∷ []
unfolding groups leading leading_of
grouped = refl

-- ---- the board 3 2 1 0 and its plan ULDRUL

abbrev board : List ℕ
board = 3 ∷ 2 ∷ 1 ∷ 0 ∷ []

abbrev plan : List ℕ
plan = 0 ∷ 1 ∷ 3 ∷ 2 ∷ 0 ∷ 1 ∷ []

-- ceiling 6, weight 1 over 1, 7 visits
abbrev hand_worked : Given
hand_worked = given 2 2 board (pos 6) 1 1 7 plan

pub worked : record_of (fields_of hand_worked)
    ≡ 2 ∷ 2 ∷ 3 ∷ 2 ∷ 1 ∷ 0 ∷ 6 ∷ 1 ∷ 1 ∷ 7 ∷ 6 ∷ 0 ∷ 1 ∷ 3 ∷ 2 ∷ 0 ∷ 1 ∷ 12 ∷ 83 ∷ 228 ∷ 139 ∷ []
unfolding sealed body spelled groups leading leading_of mark mark_from mark_step ceiling_of
worked = refl

-- ---- calls

-- a call, and the answer that it must get
pub record Row : Type 0 where
  pub call : Given
  pub room : ℕ
  pub answer : Result ℕ PlanRefusal

abbrev row : Given → ℕ → Result ℕ PlanRefusal → Row
row call room answer = record { call = call; room = room; answer = answer }

-- right and left, so many times over: from the goal back to the goal
abbrev there_and_back : ℕ → List ℕ
there_and_back zero = []
there_and_back (suc k) = 2 ∷ 1 ∷ there_and_back k

-- sixteen cells, 120 moves and visits of three groups
abbrev pub longest : Given
longest =
    given 4 4 (0 ∷ 1 ∷ 2 ∷ 3 ∷ 4 ∷ 5 ∷ 6 ∷ 7 ∷ 8 ∷ 9 ∷ 10 ∷ 11 ∷ 12 ∷ 13 ∷ 14 ∷ 15 ∷ []) (pos 120) 64 63 1000000 (there_and_back 60)

abbrev rows : List Row
rows =
    row hand_worked 21 (Ok 21)
    ∷ row longest 149 (Ok 149)
    ∷ row longest 148 (Err ShortOutput)
    -- width 5, with a ceiling below 0 besides
    ∷ row (given 5 2 board (negsuc 0) 1 1 7 plan) 21 (Err (Board BadShape))
    ∷ row (given 2 3 board (pos 6) 1 1 7 plan) 21 (Err (Board BadLength))
    ∷ row (given 2 2 (0 ∷ 1 ∷ 1 ∷ 4 ∷ []) (pos 6) 1 1 7 plan) 21 (Err (Board (TooLarge 3)))
    ∷ row (given 2 2 (0 ∷ 1 ∷ 1 ∷ 3 ∷ []) (pos 6) 1 1 7 plan) 21 (Err (Board (Repeated 2)))
    ∷ row (given 2 2 board (negsuc 0) 1 1 7 plan) 21 (Err (Beyond BadCeiling))
    ∷ row (given 2 2 board (pos 6) 1 1 0 plan) 21 (Err (Beyond BadBudget))
    ∷ row (given 2 2 board (pos 6) 1 1 1000001 plan) 21 (Err (Beyond BadBudget))
    ∷ row (given 2 2 board (pos 6) 1 2 7 plan) 21 (Err (Beyond BadWeight))
    -- 15 is tested behind 7 and before 21
    ∷ row (given 2 2 board (pos 6) 66 2 7 plan) 21 (Err (Beyond BadWeight))
    ∷ row (given 2 2 board (pos 5) 9 6 7 plan) 21 (Err (Beyond NotLowest))
    -- a list above the ceiling is not looked into
    ∷ row (given 2 2 board (pos 5) 1 1 7 (9 ∷ 9 ∷ 9 ∷ 9 ∷ 9 ∷ 9 ∷ [])) 21 (Err TooLong)
    ∷ row (given 2 2 board (pos 6) 1 1 7 (0 ∷ 4 ∷ 0 ∷ [])) 21 (Err (NoMove 1))
    ∷ row (given 2 2 board (pos 6) 1 1 7 (0 ∷ 0 ∷ 4 ∷ [])) 21 (Err (OffGrid 1))
    -- 22 is tested before 8
    ∷ row (given 2 2 board (pos 6) 1 1 7 (0 ∷ 1 ∷ [])) 0 (Err NotSolved)
    ∷ row hand_worked 20 (Err ShortOutput)
    ∷ []

pub called : map (λ r. (written r.call (replicate r.room 0)).answer) rows ≡ map (λ r. r.answer) rows
unfolding written leaves write_tests plan_tests list_tests first_refusal under
    fault_tests first_too_large first_holding repeats first_repeat first_of empty_cell is_goal stays_on leads_to legal slide after
    limit_tests bad_ceiling ceiling_of bad_budget bad_weight divides_both shares_divisor first_bad bad_move
    sealed body spelled groups leading leading_of mark mark_from mark_step
called = refl
