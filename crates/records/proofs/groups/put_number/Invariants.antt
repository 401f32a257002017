-- What the loop of `records::groups::put_number` keeps. Assumes nothing.
use Prim.Native.Nat.{ℕ, ◌+◌, ◌/◌}
use mathlib.Core.Path.{◌≡◌}
use mathlib.Core.List.{List, ◌++◌}
use lib.ListN.{length}
use lib.Seq.{sets}
use Rattle.records.specs.Groups.{leading}
use Rattle.records.proofs.groups.put_number.Given as goal

-- the loop: the groups of the rest are still to be put before the place, and the other leading groups stand from there on
pub record Putting (n at : ℕ) (old new : List ℕ) (place rest : ℕ) : Type 0 where
  pub behind : List ℕ
  pub whole : leading (n / 128) ≡ leading rest ++ behind
  pub before : place ≡ at + length (leading rest)
  pub stored : new ≡ sets old place behind

abbrev pub invariant-loop-place : goal.invariant-loop-place
invariant-loop-place l =
    Putting l.n l.at l.initial.out l.out l.place l.rest
