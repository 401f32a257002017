-- A row: the stored values F of a position's successors, one for each move; what is no successor holds infinity.
-- Every decision that the search takes over a row has its name here. Assumes nothing.
use Rattle.std.specs.Prelude.{ℕ, ◌+◌, min, max, Bool, cond, ◌&&◌, List, leb, ltb, eqb, get_or}
use Rattle.search.specs.declared.Choice.{Choice}

abbrev pub infinity : ℕ
infinity = 65535

-- the stored value of a move
abbrev pub entry : List ℕ → ℕ → ℕ
entry r m = get_or r m infinity

-- the later move only where its value is less: equal F, the lower move number first
unfoldable pub better : Choice → Choice → Choice
better x y = cond (ltb y.value x.value) y x

-- the choice among four values, one for each move
unfoldable pub best_of : ℕ → ℕ → ℕ → ℕ → Choice
best_of a b c d =
    better
    (better (better (record { step = 0; value = a }) (record { step = 1; value = b })) (record { step = 2; value = c }))
    (record { step = 3; value = d })

-- the move to visit and its value, the least F
unfoldable pub best : List ℕ → Choice
best r = best_of (entry r 0) (entry r 1) (entry r 2) (entry r 3)

-- a move's value among the others: infinity for the move that was chosen
unfoldable pub masked : ℕ → ℕ → ℕ → ℕ
masked chosen m x = cond (eqb m chosen) infinity x

abbrev pub other : List ℕ → ℕ → ℕ → ℕ
other r chosen m = masked chosen m (entry r m)

-- the second least F; infinity if there is only one
unfoldable pub second : List ℕ → ℕ
second r =
    let m = (best r).step in
    (best_of (other r m 0) (other r m 1) (other r m 2) (other r m 3)).value

-- the least F is at most the bound and not infinity, above which there is nothing
unfoldable pub may_go_on : ℕ → ℕ → Bool
may_go_on bound least = leb least bound && ltb least infinity

unfoldable pub goes_on : ℕ → List ℕ → Bool
goes_on bound r = may_go_on bound (best r).value

-- the bound for the successor that is visited: the lesser of the bound and the second least F
unfoldable pub handed_down : ℕ → List ℕ → ℕ
handed_down bound r = min bound (second r)

-- the move that takes back the last one is no successor; the start has 4 as its last move, which none takes back
abbrev pub takes_back : ℕ → ℕ → Bool
takes_back last m = eqb (last + m) 3

-- a successor's first F: its own f, except that where the visited position has f < F, the larger of that F and its own f
unfoldable pub first_stored : ℕ → ℕ → ℕ → ℕ
first_stored f stored own = cond (ltb f stored) (max stored own) own

-- the g moves made and the distance h are together above the ceiling, so that no way on is within it
unfoldable pub above_ceiling : ℕ → ℕ → ℕ → Bool
above_ceiling ceiling g h = ltb ceiling (g + h)
