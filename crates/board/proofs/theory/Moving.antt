-- A legal move of a board: where it leads, the board that it makes, and that the move 3 - m takes it back; then the board that
-- a legal list ends at. A legal move is a step of the empty cell (Steps) and an exchange of two values (Swaps). Assumes nothing.
use Prim.Native.Nat.{ℕ, ◌-◌, ◌<◌}
use mathlib.Core.Path.{◌≡◌, refl, sym, ◌∙◌, ap}
use mathlib.Core.Logic.{◌≢◌}
use mathlib.Core.List.{List, [], ◌∷◌}
use lib.Dec.{T}
use lib.ListN.{length}
use Rattle.board.specs.declared.Shape.{Shape}
use Rattle.board.specs.Shape.{cells, GoodShape}
use Rattle.board.specs.Board.{at, IsBoard, empty_cell}
use Rattle.board.specs.Moves.{leads_to, legal, slide, after}
use Rattle.board.specs.Lists.{LegalList, end_board}
use Rattle.board.proofs.theory.Boards.{empty-inside, empty-holds_0, only_empty}
use Rattle.board.proofs.theory.Swaps.{swapped, swapped-board, swapped-back, at-swapped-second}
use Rattle.board.proofs.theory.Steps.{Step, leads_by_step, leads_inside, step_stays, step_leads}
use Rattle.board.proofs.theory.Steps.{step_back, step_number, step_elsewhere}

-- the cell that a move leads the empty cell to
abbrev pub target : Shape → List ℕ → ℕ → ℕ
target s b m = leads_to s (empty_cell b) m

-- a slide into a cell that holds 0 exchanges two values
pub slide_swaps : (b : List ℕ) (e t : ℕ) → at b e ≡ 0 → slide b e t ≡ swapped b e t
unfolding slide
slide_swaps b e t z = rw z

-- a move exchanges cell e, which is empty, and cell t, which it leads to
move_swaps : (s : Shape) (b : List ℕ) (m e t : ℕ) → empty_cell b ≡ e → leads_to s e m ≡ t → at b e ≡ 0 → after s b m ≡ swapped b e t
unfolding after
move_swaps s b m e t p q z = rw (p, q) (slide_swaps b e t z)

module _ (s : Shape) (b : List ℕ) (m : ℕ) (shape : GoodShape s) (board : IsBoard s b) (allowed : T (legal s b m)) where
  -- ---- where the move leads

  pub legal_step : Step s (empty_cell b) (target s b m) m
  unfolding legal
  legal_step = leads_by_step s shape (empty_cell b) m allowed

  pub legal-number : m < 4
  legal-number = step_number legal_step

  pub target-inside : target s b m < cells s
  unfolding legal
  target-inside = leads_inside s shape (empty_cell b) m (empty-inside s b shape board) allowed

  pub target-elsewhere : target s b m ≢ empty_cell b
  target-elsewhere = step_elsewhere legal_step

  -- a tray stands there
  pub target-holds-tray : at b (target s b m) ≢ 0
  target-holds-tray z = target-elsewhere (only_empty s b shape board (target s b m) target-inside z)

  -- ---- the board that it makes

  differ : empty_cell b ≢ target s b m
  differ e = target-elsewhere (sym e)

  pub after_swaps : after s b m ≡ swapped b (empty_cell b) (target s b m)
  after_swaps = move_swaps s b m (empty_cell b) (target s b m) refl refl (empty-holds_0 s b shape board)

  pub after-board : IsBoard s (after s b m)
  after-board =
      rw after_swaps (swapped-board (empty_cell b) (target s b m) differ s b (empty-inside s b shape board) target-inside board)

  empty_in_list : empty_cell b < length b
  empty_in_list = rw board.long (empty-inside s b shape board)

  target_in_list : target s b m < length b
  target_in_list = rw board.long target-inside

  target-holds_0 : at (after s b m) (target s b m) ≡ 0
  target-holds_0 =
      ap (λ c. at c (target s b m)) after_swaps
      ∙ at-swapped-second (empty_cell b) (target s b m) differ b empty_in_list target_in_list
      ∙ empty-holds_0 s b shape board

  pub after-empty : empty_cell (after s b m) ≡ target s b m
  after-empty = sym (only_empty s (after s b m) shape after-board (target s b m) target-inside target-holds_0)

  -- ---- taking it back

  way_back : Step s (target s b m) (empty_cell b) (3 - m)
  way_back = step_back legal_step

  pub back-legal : T (legal s (after s b m) (3 - m))
  unfolding legal
  back-legal = rw after-empty (step_stays s shape (target s b m) (empty_cell b) (3 - m) (empty-inside s b shape board) way_back)

  pub back-after : after s (after s b m) (3 - m) ≡ b
  back-after =
      move_swaps s (after s b m) (3 - m) (target s b m) (empty_cell b) after-empty
      (step_leads s shape (target s b m) (empty_cell b) (3 - m) (empty-inside s b shape board) way_back) target-holds_0
      ∙ ap (λ c. swapped c (target s b m) (empty_cell b)) after_swaps
      ∙ swapped-back (empty_cell b) (target s b m) differ b empty_in_list target_in_list

-- a legal list of moves ends at a board
pub list_board : (s : Shape) → GoodShape s → (ms b : List ℕ) → IsBoard s b → LegalList s b ms → IsBoard s (end_board s b ms)
list_board s shape [] b board plays = board
list_board s shape (m ∷ ms) b board plays =
    list_board s shape ms (after s b m) (after-board s b m shape board plays.0) plays.1
