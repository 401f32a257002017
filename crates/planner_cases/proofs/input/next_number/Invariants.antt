-- `planner_cases::input::next_number` answers at most 10000009: a digit is taken on only behind a number of at most 1000000.
-- Assumes nothing.
use Rattle.std.proofs.Common.{◌≤◌}
use Rattle.planner_cases.proofs.input.next_number.Given as goal

abbrev pub invariant-loop : goal.invariant-loop
invariant-loop g l = l.n ≤ 10000009
