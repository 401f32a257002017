-- What an answer says by a number of its refusal: 0 where nothing is refused. Assumes nothing.
use Rattle.std.specs.Prelude.{ℕ, Result, Ok, Err}

abbrev pub of_refused : {T R : Type 0} → (R → ℕ) → Result T R → ℕ
of_refused f (Ok x) = 0
of_refused f (Err why) = f why
