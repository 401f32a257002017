-- What the code of the search is held to: which jobs it takes, how a row lies in the table, and what a visit or the work on a row
-- leaves in the two buffers. Assumes nothing.
use Rattle.std.specs.Prelude.{ℕ, suc, ◌+◌, ◌*◌, ◌-◌, ◌/◌, ◌%◌, ◌≤◌, ◌<◌, ◌≡◌, cond, List, ◌++◌, T, eqb, length, take, drop, replicate}
use Rattle.board.specs.Shape.{GoodShape}
use Rattle.board.specs.Moves.{legal}
use Rattle.search.specs.declared.Job.{Job}
use Rattle.search.specs.declared.Pick.{Pick}
use Rattle.search.specs.declared.Out.{Out}
use Rattle.search.specs.declared.Out.TheVariants.{Found, Value, Spent}
use Rattle.search.specs.declared.visits.End.{End}
use Rattle.search.specs.declared.visits.End.TheVariants.{Found as FoundAt, Value as Returned, Spent as OutOfVisits}
use Rattle.search.specs.Row.{infinity, entry, best, second, first_stored, above_ceiling}
use Rattle.search.specs.Space.{boards}
use Rattle.search.specs.Search.{Outcome, found, value, spent, static, visit, work, search}

-- a job that passed the tests
pub record SmallJob (job : Job) : Type 0 where
  pub shape : GoodShape job.shape
  pub ceiling : job.ceiling ≤ 120
  pub weight : job.weight.q ≤ job.weight.p
  pub most : job.weight.p ≤ 64

-- how many table numbers a search uses: four for each depth from 0 to the ceiling
abbrev pub rows_for : ℕ → ℕ
rows_for ceiling = 4 * (ceiling + 1)

-- the buffers are long enough: the table's numbers, one byte for each move
pub record Room (job : Job) (table moves : List ℕ) : Type 0 where
  pub rows : rows_for job.ceiling ≤ length table
  pub path : job.ceiling ≤ length moves

-- the row of depth g, and the table with another
abbrev pub row_at : List ℕ → ℕ → List ℕ
row_at table g = take 4 (drop (4 * g) table)

abbrev pub put_row : List ℕ → ℕ → List ℕ → List ℕ
put_row table g r = take (4 * g) table ++ (r ++ drop (4 * g + 4) table)

-- f by numbers, at depth g and distance h
abbrev pub value_at : Job → ℕ → ℕ → ℕ
value_at job g h = job.weight.q * g + job.weight.p * h

-- a value at depth g and distance h: infinity where these are together above the ceiling
abbrev pub cut_at : Job → ℕ → ℕ → ℕ → ℕ
cut_at job g h v = cond (above_ceiling job.ceiling g h) infinity v

-- the first F of a successor at distance k, of a position at depth g with the distance h and the stored value F
abbrev pub first_at : Job → ℕ → ℕ → ℕ → ℕ → ℕ
first_at job g h stored k = cut_at job (suc g) k (first_stored (value_at job g h) stored (value_at job (suc g) k))

-- what the code picks of a row: the move to visit, and the second least F
pub record Picks (r : List ℕ) (x : Pick) : Type 0 where
  pub is_best : x.step ≡ (best r).step
  pub is_second : x.second ≡ second r

-- a move whose stored value is not infinity is legal
abbrev pub Open : Job → List ℕ → List ℕ → Type 0
Open job b r = (m : ℕ) → entry r m < infinity → T (legal job.shape b m)

-- the search's visit to a board at depth g, and its work on a row, in the job's space
abbrev pub visited : Job → List ℕ → ℕ → ℕ → ℕ → ℕ → ℕ → Outcome
visited job b last g stored bound left =
    visit (boards job.shape) (static (boards job.shape) job.weight) job.ceiling (job.ceiling - g) g b last stored bound left

abbrev pub worked : Job → List ℕ → ℕ → ℕ → List ℕ → ℕ → Outcome
worked job b g bound r left =
    work
    (λ m stored' bound' left'. visited job ((boards job.shape).makes b m) m (suc g) stored' bound' left')
    (suc left) bound r left

-- the outcome as the code answers it, at depth g
unfoldable pub told : ℕ → Outcome → Out
told g (found ms left) = Found (g + length ms) left
told g (value v left) = Value v left
told g spent = Spent

-- a visit's end with the visits that are left, as a search answers it
abbrev pub ended : End → ℕ → Out
ended (FoundAt n) left = Found n left
ended (Returned v) left = Value v left
ended OutOfVisits left = Spent

-- an answer in one number, as visits once handed it up: what is left in the lowest 32 bits, a value or a length in the 16 above, then the
-- kind. No function does so now; docs/landings/speed.md names the theorems
unfoldable pub answer_of : ℕ → Out
answer_of x =
    let left = x % 4294967296 in
    let n = x / 4294967296 % 65536 in
    let kind = x / 281474976710656 in
    cond (eqb kind 0) (Value n left) (cond (eqb kind 1) (Found n left) Spent)

-- the move buffer afterwards: a path is written from place g on, and nothing else ever
unfoldable pub written : ℕ → Outcome → List ℕ → List ℕ
written g (found ms left) moves = take g moves ++ (ms ++ drop (g + length ms) moves)
written g (value v left) moves = moves
written g spent moves = moves

-- the code's answer, and the buffers as it leaves them: the rows below g are as they were
pub record Ran (g : ℕ) (o : Outcome) (table moves : List ℕ) (r : Out) (table' moves' : List ℕ) : Type 0 where
  pub answer : r ≡ told g o
  pub path : moves' ≡ written g o moves
  pub below : take (4 * g) table' ≡ take (4 * g) table

-- the whole search of a job from a board
abbrev pub of_job : Job → List ℕ → ℕ → Outcome
of_job job b budget = search (boards job.shape) (static (boards job.shape) job.weight) job.ceiling b budget

-- the visit to the start: how it ended, and the move buffer as it was left
pub record Ended (o : Outcome) (moves : List ℕ) (r : Out) (moves' : List ℕ) : Type 0 where
  pub answer : r ≡ told 0 o
  pub path : moves' ≡ written 0 o moves

-- the table after a search: the numbers that it used are 0, and the rest is as found
abbrev pub cleared_rows : ℕ → List ℕ → List ℕ
cleared_rows ceiling table = replicate (rows_for ceiling) 0 ++ drop (rows_for ceiling) table

-- a whole search: its answer, and both buffers to the last number
pub record Searched (job : Job) (b : List ℕ) (budget : ℕ) (moves table : List ℕ) (r : Out) (moves' table' : List ℕ) : Type 0 where
  pub answer : r ≡ told 0 (of_job job b budget)
  pub path : moves' ≡ written 0 (of_job job b budget) moves
  pub rows : table' ≡ cleared_rows job.ceiling table
