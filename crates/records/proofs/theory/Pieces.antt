-- A record's bytes in pieces, as they are put: the cells of a board are below 128 and so their own groups. Assumes nothing.
use Prim.Native.Nat.{ℕ}
use mathlib.Core.Path.{◌≡◌, ap, ◌∙◌}
use mathlib.Core.List.{List, ◌++◌, append_assoc}
use native.Mathlib.Omega.{arith}
use Rattle.board.specs.declared.Shape.{Shape}
use Rattle.board.specs.Shape.{GoodShape}
use Rattle.board.specs.Board.{IsBoard}
use Rattle.board.proofs.Laws.{cells-within}
use Rattle.records.specs.Groups.{spelled}
use Rattle.records.specs.Record.{Fields, shape_numbers, plan_numbers, body, piece, pieces}
use Rattle.records.specs.Write.{shape_of, Passed}
use Rattle.records.proofs.theory.Grouping.{spelled-append, spelled-small}

board-spelled : (s : Shape) (b : List ℕ) → GoodShape s → IsBoard s b → spelled b ≡ b
board-spelled s b shape board =
    spelled-small b (λ i inside. omega (arith, board.small i (omega (arith, board.long)), (cells-within shape).most))

pub body-pieces : (f : Fields) → Passed f → body f ≡ pieces (shape_numbers f) f.cells (plan_numbers f) f.moves
unfolding body
body-pieces f passed =
    ap (λ front. front ++ f.moves)
    (spelled-append (shape_numbers f ++ f.cells) (plan_numbers f)
    ∙ ap (λ front. front ++ spelled (plan_numbers f))
    (spelled-append (shape_numbers f) f.cells
    ∙ ap (λ cells. spelled (shape_numbers f) ++ cells) (board-spelled (shape_of f) f.cells passed.shape passed.board)))
    ∙ append_assoc (piece (shape_numbers f) f.cells) (spelled (plan_numbers f)) f.moves
