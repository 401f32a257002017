-- How long the lines of answers get: a plan's, a refusal's, the line of an answer that is small as the planner's are, and so the line
-- that any text is answered with. Assumes nothing.
use Prim.Native.Nat.{ℕ, ◌≤◌}
use native.Mathlib.Omega.{arith}
use mathlib.Core.List.{List}
use lib.ListN.{length, take, length-take}
use Rattle.std.specs.Prelude.{Option, None, Some}
use Rattle.planner.specs.Answer.{Answer}
use Rattle.std.specs.Prelude.{Ok, Err}
use Rattle.planner.specs.Answer.{answered, refusal_number, refusal_cell, refusal_visits}
use Rattle.planner.proofs.theory.Small.{Small, answered-small}
use Rattle.jobline.specs.Grammar.{Job}
use Rattle.jobline.specs.Line.{plan_line, refused_line}
use Rattle.jobline.specs.Answer.{line_of, call_for, answer_to}
use Rattle.jobline.proofs.theory.Decimal.{decimal-length}
use Rattle.jobline.proofs.theory.Lines.{plan-length, refused-length}

-- the two lines, with the numbers that an answer has
module _ (visits : ℕ) (few : visits ≤ 1000000) where
  plan-short : (moves : List ℕ) → length moves ≤ 120 → length (plan_line visits moves) ≤ 138
  plan-short moves h =
      omega (
        arith,
        plan-length visits moves,
        decimal-length visits 6 (omega arith),
        decimal-length (length moves) 2 (omega arith),
      )

  refused-short : (number cell : ℕ) → number ≤ 15 → cell ≤ 32 → length (refused_line number cell visits) ≤ 22
  refused-short number cell h k =
      omega (
        arith,
        refused-length number cell visits,
        decimal-length number 1 (omega arith),
        decimal-length cell 1 (omega arith),
        decimal-length visits 6 (omega arith),
      )

answer-short : (a : Answer) (moves : List ℕ) → Small a → length (line_of a moves) ≤ 138
unfolding line_of
answer-short (Ok pl) moves small =
    plan-short pl.visits small.visits-most (take pl.length moves)
    (omega (arith, length-take pl.length moves, small.length_most))
answer-short (Err r) moves small =
    let numbered : refusal_number r ≤ 15 = omega (arith, small.number-most) in
    let placed : refusal_cell r ≤ 32 = omega (arith, small.cell-most) in
    omega (arith, refused-short (refusal_visits r) small.visits-most (refusal_number r) (refusal_cell r) numbered placed)

pub line-short : (read : Option Job) → length (answer_to read) ≤ 138
unfolding answer_to
line-short None = omega (arith, refused-short 0 (omega arith) 12 0 (omega arith) (omega arith))
line-short (Some job) =
    let left = answered (call_for job) in
    answer-short left.answer left.moves (answered-small (call_for job))
