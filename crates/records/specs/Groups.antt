-- A number as groups of seven bits: most significant group first, top bit set on all but the last, shortest form only.
-- First how a number is written, then what it is for bytes to spell one, apart from how they were made. For every number.
-- Assumes nothing.
use Rattle.std.specs.Prelude.{ℕ, zero, suc, ◌+◌, ◌*◌, ◌/◌, ◌%◌, ◌≤◌, ◌<◌, ◌≡◌, List, [], ◌∷◌, ◌++◌, get_or}

-- the groups before the last, each with its top bit: n's own group behind those of n / 128, and none where n is 0.
-- The first argument bounds how often
unfoldable pub leading_of : ℕ → ℕ → List ℕ
leading_of zero n = []
leading_of (suc k) zero = []
leading_of (suc k) (suc n) = leading_of k (suc n / 128) ++ (128 + suc n % 128) ∷ []

-- n / 128 is below n where n is not 0, so n times are enough
unfoldable pub leading : ℕ → List ℕ
leading n = leading_of n n

unfoldable pub groups : ℕ → List ℕ
groups n = leading (n / 128) ++ (n % 128) ∷ []

-- what groups are worth behind groups worth v: each adds its seven bits to 128 times what stands before it
abbrev pub worth_from : ℕ → List ℕ → ℕ
worth_from v [] = v
worth_from v (b ∷ s) = worth_from (v * 128 + b % 128) s

abbrev pub worth : List ℕ → ℕ
worth s = worth_from 0 s

-- bytes with the top bit set, and then one without
pub data Grouped : List ℕ → Type 0 where
  last : {b : ℕ} → b < 128 → Grouped (b ∷ [])
  more : {b : ℕ} {s : List ℕ} → 128 ≤ b → b < 256 → Grouped s → Grouped (b ∷ s)

-- the bytes spell n: a group of 0 before the others, the byte 128, would be one too many
pub record Spells (s : List ℕ) (n : ℕ) : Type 0 where
  pub grouped : Grouped s
  pub shortest : get_or s 0 0 ≡ 128 → ⊥
  pub worth : worth s ≡ n

-- numbers one behind the other
unfoldable pub spelled : List ℕ → List ℕ
spelled [] = []
spelled (n ∷ ns) = groups n ++ spelled ns
