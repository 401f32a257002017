-- How a move changes the distance: only the tray that slides counts, which comes one step nearer to its goal cell or goes one farther.
-- Then all changes along a list, what a move answers, and the distance that whoever makes moves keeps. Assumes nothing.
use Rattle.std.specs.Prelude.{ℕ, ◌≤◌, ◌≡◌, cond, List, [], ◌∷◌, ltb, ℤ, pos, negsuc, ◌+ℤ◌}
use Rattle.board.specs.declared.Shape.{Shape}
use Rattle.board.specs.declared.Position.{Position}
use Rattle.board.specs.declared.Moved.{Moved}
use Rattle.board.specs.declared.Place.{Place}
use Rattle.board.specs.Board.{at, empty_cell}
use Rattle.board.specs.Moves.{leads_to, after}
use Rattle.board.specs.Distance.{tray_distance, distance}
use Rattle.board.specs.Held.{held, Holds, Taken}

-- a change of distance is -1 or +1
pub data OneStep : ℤ → Type 0 where
  nearer : OneStep (negsuc 0)
  farther : OneStep (pos 1)

-- -1 where the new distance is the lesser one, else +1
abbrev pub change_of : ℕ → ℕ → ℤ
change_of new old = cond (ltb new old) (negsuc 0) (pos 1)

-- the change by a move: that of the tray in the cell t, which the move leads to, as it goes to the empty cell e
unfoldable pub change : Shape → List ℕ → ℕ → ℤ
change s b m =
    let e = empty_cell b in
    let t = leads_to s e m in
    change_of (tray_distance s e (at b t)) (tray_distance s t (at b t))

-- the same by the cell t
abbrev pub change_to : Shape → List ℕ → ℕ → ℤ
change_to s b t = change_of (tray_distance s (empty_cell b) (at b t)) (tray_distance s t (at b t))

-- all changes along a list of moves, added up
unfoldable pub changes : Shape → List ℕ → List ℕ → ℤ
changes s b [] = pos 0
changes s b (m ∷ ms) = change s b m +ℤ changes s (after s b m) ms

-- what a move of the board b answers: the position holds the board after it, whose distance is the one before it plus the change
pub record MovedBy (s : Shape) (b : List ℕ) (m : ℕ) (r : Moved) : Type 0 where
  pub position : Taken s (after s b m) r.position
  pub sum : pos (distance s (after s b m)) ≡ pos (distance s b) +ℤ r.change
  pub one_step : OneStep r.change

-- the distance is kept beside a position: it is the full sum
pub record Kept (s : Shape) (p : Position) (h : ℕ) : Type 0 where
  pub holds : Holds s p
  pub full : h ≡ distance s (held s p)

-- the place that a move of the board b leads to: the position holds the board after it, and its distance is kept
pub record LeadsTo (s : Shape) (b : List ℕ) (m : ℕ) (r : Place) : Type 0 where
  pub position : Taken s (after s b m) r.position
  pub kept : Kept s r.position r.h

-- a change that leads from the distance h to a distance
pub record LeadsOn (h : ℕ) (z : ℤ) : Type 0 where
  pub one_step : OneStep z
  pub to : ℕ
  pub most : h ≤ 90
  pub sum : pos to ≡ pos h +ℤ z
