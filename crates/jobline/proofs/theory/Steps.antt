-- A step of reading, and one behind it; and a byte at the front of a text.
-- Assumes nothing.
use Prim.Native.Nat.{ℕ}
use mathlib.Core.Path.{◌≡◌, refl}
use mathlib.Core.Bool.{Bool, true, false, cond}
use mathlib.Core.List.{List, [], ◌∷◌}
use lib.Dec.{eqb}
use borrow.Author.Tests.{eqb-true}
use Rattle.std.specs.Prelude.{Option, None, Some}
use Rattle.jobline.specs.Scan.{◌>>=◌, behind}

-- what holds of none, and of each answer behind what was read, holds of both steps
pub onward : {A B : Type 0} (P : Option B → Type 0) (read : Option A) (go : A → Option B) → P None
    → ((value : A) → read ≡ Some value → P (go value)) → P (read >>= go)
onward P None go none some = none
onward P (Some value) go none some = some value refl

-- a byte stands in front of what is behind it
pub behind-some : (byte : ℕ) (text rest : List ℕ) → behind byte text ≡ Some rest → text ≡ byte ∷ rest
behind-some byte [] rest e = cc
behind-some byte (b ∷ text) rest e = go (eqb b byte) refl e
  where
    go : (t : Bool) → eqb b byte ≡ t → cond t (Some text) None ≡ Some rest → b ∷ text ≡ byte ∷ rest
    go true same e = let h = eqb-true b byte same in cc
    go false same e = cc
