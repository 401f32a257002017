-- The bytes of a record: width, height, the cells, ceiling, p, q, visits and length, each as groups of seven bits; one byte for each
-- move; the mark of all these. What a record is, apart from how it is written. Assumes nothing.
use Rattle.std.specs.Prelude.{ℕ, List, [], ◌∷◌, ◌++◌, length}
use Rattle.records.specs.Groups.{spelled}
use Rattle.records.specs.Mark.{mark, mark_bytes}

-- what a record says
pub record Fields : Type 0 where
  pub width : ℕ
  pub height : ℕ
  pub cells : List ℕ
  pub ceiling : ℕ
  pub p : ℕ
  pub q : ℕ
  pub visits : ℕ
  pub moves : List ℕ

-- the numbers before the cells, and those between cells and moves
abbrev pub shape_numbers : Fields → List ℕ
shape_numbers f = f.width ∷ f.height ∷ []

abbrev pub plan_numbers : Fields → List ℕ
plan_numbers f = f.ceiling ∷ f.p ∷ f.q ∷ f.visits ∷ length f.moves ∷ []

-- all before the mark
unfoldable pub body : Fields → List ℕ
body f = spelled (shape_numbers f ++ f.cells ++ plan_numbers f) ++ f.moves

-- bytes with their mark behind them
unfoldable pub sealed : List ℕ → List ℕ
sealed bytes = bytes ++ mark_bytes (mark bytes)

abbrev pub record_of : Fields → List ℕ
record_of f = sealed (body f)

-- the body in two pieces, as it is put: numbers and then bytes. A cell is below 128 and so its own group
abbrev pub piece : List ℕ → List ℕ → List ℕ
piece numbers bytes = spelled numbers ++ bytes

abbrev pub pieces : List ℕ → List ℕ → List ℕ → List ℕ → List ℕ
pieces shape cells plan moves = piece shape cells ++ piece plan moves
