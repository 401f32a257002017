-- Rows computed of the definitions of reading: the record worked by hand, and a refusal of each number, most of them one edit away from
-- it (its mark made right again where the refusal comes behind the mark). Assumes nothing.
use Prim.Native.Nat.{ℕ}
use mathlib.Core.Path.{◌≡◌, refl}
use mathlib.Core.List.{List, [], ◌∷◌, map}
use lib.ListN.{replicate}
use Rattle.std.specs.Prelude.{Result, Ok, Err}
use Rattle.board.specs.declared.Fault.TheVariants.{TooLarge}
use Rattle.board.specs.First.{first_of}
use Rattle.board.specs.Board.{empty_cell, is_goal}
use Rattle.board.specs.Moves.{stays_on, leads_to, legal, slide, after}
use Rattle.board.specs.Tests.{first_refusal, under}
use Rattle.board.specs.Faults.{fault_tests, first_too_large, first_holding, repeats, first_repeat}
use Rattle.planner.specs.declared.Limit.TheVariants.{BadCeiling, NotLowest}
use Rattle.planner.specs.Limits.{bad_ceiling, ceiling_of, bad_budget, bad_weight, divides_both, shares_divisor, limit_tests}
use Rattle.player.specs.Play.{first_bad, bad_move}
use Rattle.records.specs.declared.PlanRefusal.TheVariants.{Board, Beyond, TooLong, NoMove, OffGrid, NotSolved, ShortOutput}
use Rattle.records.specs.declared.Numbers.{Numbers}
use Rattle.records.specs.declared.ReadRefusal.{ReadRefusal}
use Rattle.records.specs.declared.ReadRefusal.TheVariants.{CutShort, BadNumber, BadSide, LongList, BytesAfter, WrongMark, Plan}
use Rattle.records.specs.Mark.{mark_step, mark_from, mark}
use Rattle.records.specs.Write.{list_tests, plan_tests}
use Rattle.records.specs.Scan.{ended, groups_at, number_at, side_at, length_at, numbers_at}
use Rattle.records.specs.Read.{length_on, plan_on, cells_on, height_on, numbers_in, mark_stands, end_tests, leaves_read, read_back}

-- bytes, how long the output is, and the answer that they must get
record Row : Type 0 where
  bytes : List ℕ
  room : ℕ
  answer : Result Numbers ReadRefusal

abbrev row : List ℕ → ℕ → Result Numbers ReadRefusal → Row
row bytes room answer = record { bytes = bytes; room = room; answer = answer }

-- the record worked by hand: the board 3 2 1 0 and its plan ULDRUL
abbrev worked : List ℕ
worked = 2 ∷ 2 ∷ 3 ∷ 2 ∷ 1 ∷ 0 ∷ 6 ∷ 1 ∷ 1 ∷ 7 ∷ 6 ∷ 0 ∷ 1 ∷ 3 ∷ 2 ∷ 0 ∷ 1 ∷ 12 ∷ 83 ∷ 228 ∷ 139 ∷ []

-- first that record, into an output of as many bytes as it needs
abbrev rows : List Row
rows =
    row worked 10 (Ok (record { width = 2; height = 2; ceiling = 6; p = 1; q = 1; visits = 7; length = 6 }))
    -- no bytes, and a record cut behind its tenth
    ∷ row ([]) 0 (Err (CutShort 0))
    ∷ row (2 ∷ 2 ∷ 3 ∷ 2 ∷ 1 ∷ 0 ∷ 6 ∷ 1 ∷ 1 ∷ 7 ∷ []) 0 (Err (CutShort 10))
    -- the mark cut by one byte
    ∷ row (2 ∷ 2 ∷ 3 ∷ 2 ∷ 1 ∷ 0 ∷ 6 ∷ 1 ∷ 1 ∷ 7 ∷ 6 ∷ 0 ∷ 1 ∷ 3 ∷ 2 ∷ 0 ∷ 1 ∷ 12 ∷ 83 ∷ 228 ∷ []) 0 (Err (CutShort 20))
    -- a number that begins with byte 128, even where nothing follows
    ∷ row (2 ∷ 128 ∷ []) 0 (Err (BadNumber 1))
    -- over 32 bits; the top bit on the fifth byte
    ∷ row (2 ∷ 2 ∷ 144 ∷ 128 ∷ 128 ∷ 128 ∷ 0 ∷ 2 ∷ 1 ∷ 0 ∷ 6 ∷ 1 ∷ 1 ∷ 7 ∷ 6 ∷ 0 ∷ 1 ∷ 3 ∷ 2 ∷ 0 ∷ 1 ∷ []) 0 (Err (BadNumber 2))
    ∷ row (2 ∷ 2 ∷ 129 ∷ 128 ∷ 128 ∷ 128 ∷ 128 ∷ []) 0 (Err (BadNumber 2))
    -- four bytes that could begin such a number, and then none
    ∷ row (2 ∷ 2 ∷ 144 ∷ 128 ∷ 128 ∷ 128 ∷ []) 0 (Err (CutShort 6))
    -- a width and a height outside 2 to 4, before reading on
    ∷ row (5 ∷ []) 0 (Err (BadSide 0))
    ∷ row (2 ∷ 1 ∷ 128 ∷ []) 0 (Err (BadSide 1))
    -- a length of 121
    ∷ row (2 ∷ 2 ∷ 3 ∷ 2 ∷ 1 ∷ 0 ∷ 6 ∷ 1 ∷ 1 ∷ 7 ∷ 121 ∷ []) 0 (Err (LongList 10))
    -- a byte after the end, with the mark wrong besides; the mark wrong
    ∷ row (2 ∷ 2 ∷ 3 ∷ 2 ∷ 1 ∷ 0 ∷ 6 ∷ 1 ∷ 1 ∷ 7 ∷ 6 ∷ 0 ∷ 1 ∷ 3 ∷ 2 ∷ 0 ∷ 1 ∷ 12 ∷ 83 ∷ 228 ∷ 0 ∷ 0 ∷ []) 0 (Err (BytesAfter 21))
    ∷ row (2 ∷ 2 ∷ 3 ∷ 2 ∷ 1 ∷ 0 ∷ 6 ∷ 1 ∷ 1 ∷ 7 ∷ 6 ∷ 0 ∷ 1 ∷ 3 ∷ 2 ∷ 0 ∷ 1 ∷ 12 ∷ 83 ∷ 228 ∷ 138 ∷ []) 0 (Err WrongMark)
    -- a cell that no byte holds; a ceiling that no i32 holds
    ∷ row (2 ∷ 2 ∷ 3 ∷ 143 ∷ 255 ∷ 255 ∷ 255 ∷ 127 ∷ 1 ∷ 0 ∷ 6 ∷ 1 ∷ 1 ∷ 7 ∷ 6 ∷ 0 ∷ 1 ∷ 3 ∷ 2 ∷ 0 ∷ 1 ∷ 199 ∷ 139 ∷ 152 ∷ 214 ∷ []) 10
    (Err (Plan (Board (TooLarge 1))))
    ∷ row (2 ∷ 2 ∷ 3 ∷ 2 ∷ 1 ∷ 0 ∷ 143 ∷ 255 ∷ 255 ∷ 255 ∷ 127 ∷ 1 ∷ 1 ∷ 7 ∷ 6 ∷ 0 ∷ 1 ∷ 3 ∷ 2 ∷ 0 ∷ 1 ∷ 34 ∷ 8 ∷ 87 ∷ 72 ∷ []) 10
    (Err (Plan (Beyond BadCeiling)))
    -- a weight of 2 over 2, as an earlier writer took it, before the length above the ceiling; that length
    ∷ row (2 ∷ 2 ∷ 3 ∷ 2 ∷ 1 ∷ 0 ∷ 5 ∷ 2 ∷ 2 ∷ 7 ∷ 6 ∷ 0 ∷ 1 ∷ 3 ∷ 2 ∷ 0 ∷ 1 ∷ 70 ∷ 255 ∷ 67 ∷ 116 ∷ []) 10
    (Err (Plan (Beyond NotLowest)))
    ∷ row (2 ∷ 2 ∷ 3 ∷ 2 ∷ 1 ∷ 0 ∷ 5 ∷ 1 ∷ 1 ∷ 7 ∷ 6 ∷ 0 ∷ 1 ∷ 3 ∷ 2 ∷ 0 ∷ 1 ∷ 5 ∷ 49 ∷ 30 ∷ 222 ∷ []) 10 (Err (Plan TooLong))
    -- a byte that is no move; a move off the grid; not at the goal, tested before the room
    ∷ row (2 ∷ 2 ∷ 3 ∷ 2 ∷ 1 ∷ 0 ∷ 6 ∷ 1 ∷ 1 ∷ 7 ∷ 6 ∷ 0 ∷ 4 ∷ 3 ∷ 2 ∷ 0 ∷ 1 ∷ 8 ∷ 182 ∷ 252 ∷ 116 ∷ []) 10 (Err (Plan (NoMove 1)))
    ∷ row (2 ∷ 2 ∷ 3 ∷ 2 ∷ 1 ∷ 0 ∷ 6 ∷ 1 ∷ 1 ∷ 7 ∷ 6 ∷ 0 ∷ 0 ∷ 3 ∷ 2 ∷ 0 ∷ 1 ∷ 35 ∷ 84 ∷ 27 ∷ 128 ∷ []) 10 (Err (Plan (OffGrid 1)))
    ∷ row (2 ∷ 2 ∷ 3 ∷ 2 ∷ 1 ∷ 0 ∷ 6 ∷ 1 ∷ 1 ∷ 7 ∷ 2 ∷ 0 ∷ 1 ∷ 24 ∷ 36 ∷ 223 ∷ 129 ∷ []) 0 (Err (Plan NotSolved))
    -- an output of one byte less
    ∷ row worked 9 (Err (Plan ShortOutput))
    ∷ []

pub called-back : map (λ r. (read_back r.bytes (replicate r.room 9)).answer) rows ≡ map (λ r. r.answer) rows
unfolding read_back leaves_read end_tests mark_stands numbers_in height_on cells_on plan_on length_on
    ended groups_at number_at side_at length_at numbers_at plan_tests list_tests first_refusal under
    fault_tests first_too_large first_holding repeats first_repeat first_of empty_cell is_goal stays_on leads_to legal slide after
    limit_tests bad_ceiling ceiling_of bad_budget bad_weight divides_both shares_divisor first_bad bad_move mark mark_from mark_step
called-back = refl

-- the output receives the cells and then the moves, and the rest stays
pub received-back : (read_back worked (replicate 12 9)).out
    ≡ 3 ∷ 2 ∷ 1 ∷ 0 ∷ 0 ∷ 1 ∷ 3 ∷ 2 ∷ 0 ∷ 1 ∷ 9 ∷ 9 ∷ []
unfolding read_back leaves_read end_tests mark_stands numbers_in height_on cells_on plan_on length_on
    ended groups_at number_at side_at length_at numbers_at plan_tests list_tests first_refusal under
    fault_tests first_too_large first_holding repeats first_repeat first_of empty_cell is_goal stays_on leads_to legal slide after
    limit_tests bad_ceiling ceiling_of bad_budget bad_weight divides_both shares_divisor first_bad bad_move mark mark_from mark_step
received-back = refl
