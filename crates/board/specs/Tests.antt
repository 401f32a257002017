-- Tests in a fixed order, each with the refusal that it gives: the first that holds is the answer. Every list of refusals is one such
-- list, so that one more test is one more line. Assumes nothing.
use Rattle.std.specs.Prelude.{◌≡◌, Bool, true, false, cond, List, [], ◌∷◌}
use Rattle.std.proofs.Math.Option.{Option, none, some}

pub record Test (R : Type 0) : Type 0 where
  pub holds : Bool
  pub refusal : R

abbrev pub test : {R : Type 0} → Bool → R → Test R
test holds refusal = record { holds = holds; refusal = refusal }

-- the refusal of the first test that holds
unfoldable pub first_refusal : {R : Type 0} → List (Test R) → Option R
first_refusal [] = none
first_refusal (t ∷ ts) = cond t.holds (some t.refusal) (first_refusal ts)

-- a test with this refusal holds, and none before it does
pub data FirstToHold {R : Type 0} : List (Test R) → R → Type 0 where
  here : {t : Test R} {ts : List (Test R)} → t.holds ≡ true → FirstToHold (t ∷ ts) t.refusal
  later : {t : Test R} {ts : List (Test R)} {r : R} → t.holds ≡ false → FirstToHold ts r → FirstToHold (t ∷ ts) r

-- no test holds
pub data NoneHolds {R : Type 0} : List (Test R) → Type 0 where
  end : NoneHolds []
  past : {t : Test R} {ts : List (Test R)} → t.holds ≡ false → NoneHolds ts → NoneHolds (t ∷ ts)

-- the same tests, their refusals held by another kind
unfoldable pub under : {R R' : Type 0} → (R → R') → List (Test R) → List (Test R')
under f [] = []
under f (t ∷ ts) = test t.holds (f t.refusal) ∷ under f ts
