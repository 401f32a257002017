-- The distance of a board: rows plus columns from each tray to its goal cell, over the trays and not the empty cell.
-- Then the table that the cells are looked up in: the 256 distances between pairs of cells of a grid four wide; a smaller cabinet uses the
-- cells with the same row and column. Last a shape's own table: for each cell what each tray adds there, and the ways from it.
-- Assumes nothing.
use Rattle.std.specs.Prelude.{ℕ, zero, suc, ◌+◌, ◌-◌, ◌*◌, ◌/◌, ◌%◌, ◌≤◌, ◌<◌, ◌≡◌}
use Rattle.std.specs.Prelude.{cond, not, ◌&&◌, List, [], ◌∷◌, ltb, eqb, length, get_or}
use Rattle.board.specs.declared.Shape.{Shape}
use Rattle.board.specs.Shape.{cells, row, column}
use Rattle.board.specs.Moves.{stays_on, leads_to}

-- how far two numbers are apart
abbrev pub apart : ℕ → ℕ → ℕ
apart a c = (a - c) + (c - a)

-- rows plus columns between two cells
abbrev pub between : Shape → ℕ → ℕ → ℕ
between s i j = apart (row s i) (row s j) + apart (column s i) (column s j)

-- what the tray v in cell i adds: v's goal cell is cell v, and the empty cell (0) is no tray
unfoldable pub tray_distance : Shape → ℕ → ℕ → ℕ
tray_distance s i zero = 0
tray_distance s i (suc v) = between s i (suc v)

-- the same over the cells i, i + 1, ..
unfoldable pub distance_from : Shape → ℕ → List ℕ → ℕ
distance_from s i [] = 0
distance_from s i (v ∷ vs) = tray_distance s i v + distance_from s (suc i) vs

unfoldable pub distance : Shape → List ℕ → ℕ
distance s b = distance_from s 0 b

-- the cell of a grid four wide that has the row and the column of cell i
abbrev pub four_wide : Shape → ℕ → ℕ
four_wide s i = 4 * row s i + column s i

-- rows plus columns between two cells of a grid four wide
abbrev pub between_four : ℕ → ℕ → ℕ
between_four a c = apart (a / 4) (c / 4) + apart (a % 4) (c % 4)

-- the table's rule: entry 16a + c for cells a and c
pub record DistanceTable (table : List ℕ) : Type 0 where
  pub long : length table ≡ 256
  pub entry : (a c : ℕ) → a < 16 → c < 16 → get_or table (16 * a + c) 0 ≡ between_four a c

-- the cell that the move m leads to from cell e after the move `last`: e itself where it leaves the grid or takes that move back. The
-- start has 4 as its last move, which none takes back
unfoldable pub way : Shape → ℕ → ℕ → ℕ → ℕ
way s e last m = cond (stays_on s e m && not (eqb (last + m) 3)) (leads_to s e m) e

-- the same by the place k = 4 × last + m
abbrev pub way_at : Shape → ℕ → ℕ → ℕ
way_at s e k = way s e (k / 4) (k % 4)

-- the four ways from cell e where no move is taken back
pub record FirstWays (s : Shape) (e : ℕ) (ways : List ℕ) : Type 0 where
  pub long : length ways ≡ 4
  pub each : (m : ℕ) → m < 4 → get_or ways m 0 ≡ way s e 4 m

-- what a shape's own table has for its cell e: at v what the tray v in cell e adds, and at 16 + 4 × last + m the way by m after `last`
unfoldable pub cell_at : Shape → ℕ → ℕ → ℕ
cell_at s e j =
    cond (ltb j 16)
    (cond (ltb j (cells s)) (tray_distance s e j) 0)
    (cond (ltb j 36) (way_at s e (j - 16)) 0)

-- the table has 64 entries for each cell, and 0 where there is no such cell
unfoldable pub near_at : Shape → ℕ → ℕ
near_at s k = cond (ltb (k / 64) (cells s)) (cell_at s (k / 64) (k % 64)) 0

pub record NearTable (s : Shape) (near : List ℕ) : Type 0 where
  pub long : length near ≡ 1024
  pub entry : (k : ℕ) → k < 1024 → get_or near k 0 ≡ near_at s k

-- a table with n entries put from one place on, by f, and all others as they were
pub record RunPut (f : ℕ → ℕ) (place n : ℕ) (before after : List ℕ) : Type 0 where
  pub long : length after ≡ length before
  pub put : (i : ℕ) → i < n → get_or after (place + i) 0 ≡ f i
  pub earlier : (k : ℕ) → k < place → get_or after k 0 ≡ get_or before k 0
  pub later : (k : ℕ) → place + n ≤ k → get_or after k 0 ≡ get_or before k 0
