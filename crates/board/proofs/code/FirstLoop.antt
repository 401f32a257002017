-- A loop that looks for the first number below n at which a test holds, by going up from 0: `Looking f n i` is its invariant at i.
--     begin     it holds at 0
--     further   where f fails at i, it holds at i + 1
--     here      where f holds at i, i is found
--     nowhere   at the end of the loop, none is found
-- Rests on the laws of `first_of` (Firsts). Assumes nothing.
use Prim.Native.Nat.{ℕ, ◌+◌, ◌-◌, ◌<◌, ◌≤◌}
use mathlib.Core.Path.{◌≡◌, ap, ◌∙◌}
use mathlib.Core.Bool.{Bool, true, false}
use native.Mathlib.Numerals.{add-one}
use native.Mathlib.Omega.{arith}
use Rattle.std.specs.Prelude.{Some, None}
use Rattle.board.specs.First.{first_of, found}
use Rattle.board.proofs.theory.Firsts.{first_of_goes-on, first_of_stops, first_of_ends, found_below, found_past}

-- no number below i is the first: what is looked for is looked for from i on
pub record Looking (f : ℕ → Bool) (n i : ℕ) : Type 0 where
  pub within : i ≤ n
  pub ahead : first_of f 0 n ≡ first_of f i (n - i)

pub begin : (f : ℕ → Bool) (n : ℕ) → Looking f n 0
begin f n = record { within = omega arith; ahead = ap (λ (k : ℕ). first_of f 0 k) (omega arith) }

module _ (f : ℕ → Bool) (n i : ℕ) (looking : Looking f n i) where
  pub further : i < n → f i ≡ false → Looking f n (i + 1)
  further below e = record { within = omega arith; ahead = looking.ahead ∙ rw add-one (first_of_goes-on f i n below e) }

  pub here : i < n → f i ≡ true → Some i ≡ found n (first_of f 0 n)
  here below e = rw (looking.ahead, first_of_stops f i n below e) (found_below n i below)

  pub nowhere : n ≤ i → None ≡ found n (first_of f 0 n)
  nowhere past =
      let last : i ≡ n = omega (arith, looking.within) in
      rw (looking.ahead, last, first_of_ends f n) (found_past n n (omega arith))
