-- What a record is, apart from how one is written or read: the shortest groups of each number, one byte for each move, and the mark of
-- all these; of a plan that solves its board within its limits. Assumes nothing.
use Rattle.std.specs.Prelude.{ℕ, ◌≤◌, ◌<◌, ◌≡◌, List, [], ◌∷◌, ◌++◌, pos, length, get_or}
use Rattle.board.specs.Shape.{GoodShape}
use Rattle.board.specs.Board.{IsBoard}
use Rattle.board.specs.Lists.{Solves}
use Rattle.board.specs.Tests.{NoneHolds}
use Rattle.planner.specs.Limits.{limit_tests}
use Rattle.records.specs.Groups.{Spells}
use Rattle.records.specs.Mark.{mark, mark_bytes}
use Rattle.records.specs.Record.{Fields, shape_numbers, plan_numbers}
use Rattle.records.specs.Write.{shape_of}

-- every one is a byte
abbrev pub Bytes : List ℕ → Type 0
Bytes l = (i : ℕ) → i < length l → get_or l i 0 < 256

-- each text spells a number, in order
pub data Spelling : List (List ℕ) → List ℕ → Type 0 where
  none : Spelling [] []
  more : {s : List ℕ} {n : ℕ} {ss : List (List ℕ)} {ns : List ℕ} → Spells s n → Spelling ss ns → Spelling (s ∷ ss) (n ∷ ns)

-- texts one behind the other
abbrev pub joined : List (List ℕ) → List ℕ
joined [] = []
joined (s ∷ ss) = s ++ joined ss

-- a plan that a record may hold
pub record GoodPlan (f : Fields) : Type 0 where
  pub shape : GoodShape (shape_of f)
  pub board : IsBoard (shape_of f) f.cells
  -- the ceiling, the visits as a budget, and the weight
  pub limits : NoneHolds (limit_tests (pos f.ceiling) f.visits f.p f.q)
  pub within : length f.moves ≤ f.ceiling
  pub solves : Solves (shape_of f) f.cells f.moves

pub record IsRecord (bytes : List ℕ) (f : Fields) : Type 0 where
  -- the numbers as they stand in it
  pub texts : List (List ℕ)
  pub numbers : Spelling texts (shape_numbers f ++ f.cells ++ plan_numbers f)
  pub whole : bytes ≡ (joined texts ++ f.moves) ++ mark_bytes (mark (joined texts ++ f.moves))
  pub plan : GoodPlan f
