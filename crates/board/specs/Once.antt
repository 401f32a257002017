-- That a side is taken has one proof at most: what a type asks that keeps it. Assumes nothing.
use Rattle.std.specs.Prelude.{ℕ, refl}
use Rattle.board.specs.Shape.{Side, two, three, four}

pub Side-prop : (k : ℕ) → IsProp (Side k)
Side-prop _ two two = refl
Side-prop _ three three = refl
Side-prop _ four four = refl
