-- Tests 1 to 4 of a width, a height and a board as they were given, in the paper's order: the first that holds is the answer.
-- Each fault has the paper's number and, for 3 and 4, the cell. Assumes nothing.
use Rattle.std.specs.Prelude.{ℕ, ◌*◌, Bool, not, ◌||◌, List, [], ◌∷◌, ltb, leb, eqb, length, Result, Ok, Err}
use Rattle.std.proofs.Math.Option.{Option, none, some}
use Rattle.board.specs.declared.Shape.{Shape}
use Rattle.board.specs.declared.Fault.{Fault}
use Rattle.board.specs.declared.Fault.TheVariants.{BadShape, BadLength, TooLarge, Repeated}
use Rattle.board.specs.First.{first_of}
use Rattle.board.specs.Tests.{Test, test, first_refusal}
use Rattle.board.specs.Shape.{bad_side}
use Rattle.board.specs.Board.{at}

-- the first of the first n cells whose byte is n or more; n where there is none
unfoldable pub first_too_large : ℕ → List ℕ → ℕ
first_too_large n b = first_of (λ i. leb n (at b i)) 0 n

-- the first cell before i that holds x; i where there is none
unfoldable pub first_holding : List ℕ → ℕ → ℕ → ℕ
first_holding b x i = first_of (λ j. eqb (at b j) x) 0 i

-- cell i repeats an earlier one
unfoldable pub repeats : List ℕ → ℕ → Bool
repeats b i = ltb (first_holding b (at b i) i) i

-- the first of the first n cells that repeats an earlier one; n where there is none
unfoldable pub first_repeat : ℕ → List ℕ → ℕ
first_repeat n b = first_of (repeats b) 0 n

-- tests 1 to 4, in their order
unfoldable pub fault_tests : ℕ → ℕ → List ℕ → List (Test Fault)
fault_tests width height b =
    let n = width * height in
    test (bad_side width || bad_side height) BadShape
    ∷ test (not (eqb (length b) n)) BadLength
    ∷ test (ltb (first_too_large n b) n) (TooLarge (first_too_large n b))
    ∷ test (ltb (first_repeat n b) n) (Repeated (first_repeat n b))
    ∷ []

-- what they say: a fault, or the shape
unfoldable pub said_of : Shape → Option Fault → Result Shape Fault
said_of s (some fault) = Err fault
said_of s none = Ok s

unfoldable pub tested : ℕ → ℕ → List ℕ → Result Shape Fault
tested width height b = said_of (record { width = width; height = height }) (first_refusal (fault_tests width height b))

-- the paper's number of each fault, and the cell (0 but for 3 and 4)
abbrev pub fault_number : Fault → ℕ
fault_number BadShape = 1
fault_number BadLength = 2
fault_number (TooLarge i) = 3
fault_number (Repeated i) = 4

abbrev pub fault_cell : Fault → ℕ
fault_cell BadShape = 0
fault_cell BadLength = 0
fault_cell (TooLarge i) = i
fault_cell (Repeated i) = i
