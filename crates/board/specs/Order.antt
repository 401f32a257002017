-- Putting values in order by exchanges: what the code of test 9 counts. Each cell then holds its own number.
-- Assumes nothing.
use Rattle.std.specs.Prelude.{ℕ, suc, ◌<◌, ◌≡◌, ◌≢◌, List, length, set}
use Rattle.board.specs.Board.{at}

-- k exchanges, each of the values of two cells, put b in order
pub data OrderedBy : List ℕ → ℕ → Type 0 where
  already : {b : List ℕ} → ((i : ℕ) → i < length b → at b i ≡ i) → OrderedBy b 0
  exchange :
      {b : List ℕ} {k : ℕ} (i j : ℕ)
      → i ≢ j
      → i < length b
      → j < length b
      → OrderedBy (set (set b i (at b j)) j (at b i)) k
      → OrderedBy b (suc k)

-- and of n cells they are at most n - 1
pub record FewExchanges (b : List ℕ) (k : ℕ) : Type 0 where
  pub ordered : OrderedBy b k
  pub most : k < length b
