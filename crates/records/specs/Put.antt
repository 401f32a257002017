-- How bytes are put into a lent buffer: stored from a place on, and the rest as found. Assumes nothing.
use Rattle.std.specs.Prelude.{ℕ, ◌+◌, ◌≡◌, List, length}
use Rattle.std.proofs.lemmas.List.Edits.{sets}

-- the bytes were stored from a place on, and next is the place behind them
pub record Put (bytes old : List ℕ) (at : ℕ) (new : List ℕ) (next : ℕ) : Type 0 where
  pub stored : new ≡ sets old at bytes
  pub end : next ≡ at + length bytes
