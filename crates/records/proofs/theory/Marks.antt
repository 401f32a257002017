-- Laws of the mark: that a product of two numbers of 32 bits fits 64, the mark of no bytes, and of one byte more; and how long bytes are
-- with their mark. Assumes nothing.
use Prim.Native.Nat.{ℕ, ◌+◌}
use mathlib.Core.Path.{◌≡◌, refl}
use mathlib.Core.List.{List, [], ◌∷◌, ◌++◌}
use lib.ListN.{length, length-append}
use Rattle.records.specs.Mark.{mark_step, mark_from, mark}
use Rattle.records.specs.Record.{sealed}

mark-from_snoc : (m : ℕ) (bytes : List ℕ) (b : ℕ) → mark_from m (bytes ++ b ∷ []) ≡ mark_step (mark_from m bytes) b
unfolding mark_from
mark-from_snoc m [] b = refl
mark-from_snoc m (a ∷ bytes) b = mark-from_snoc (mark_step m a) bytes b

pub mark-none : mark [] ≡ 2166136261
unfolding mark mark_from
mark-none = refl

pub mark-snoc : (l : List ℕ) (b : ℕ) → mark (l ++ b ∷ []) ≡ mark_step (mark l) b
unfolding mark
mark-snoc l b = mark-from_snoc 2166136261 l b

pub sealed-length : (bytes : List ℕ) → length (sealed bytes) ≡ length bytes + 4
unfolding sealed
sealed-length bytes = rw length-append
