-- `planner::call::answer_of` meets its contract: one answer for each end of the search. Assumes nothing.
use mathlib.Core.Path.{subst, sym, ap}
use native.Mathlib.Omega.{arith}
use Rattle.planner.specs.Ends.{LeftWithin, answer_of}
use Rattle.planner.proofs.call.answer_of.Goals as goal

pub overflow_sub-result : goal.overflow_sub-result
overflow_sub-result c =
    let within = subst (LeftWithin c.args.budget) c.in-Found.is c.requires in
    omega arith

pub overflow_sub-result-in-Value : goal.overflow_sub-result-in-Value
overflow_sub-result-in-Value c =
    subst (LeftWithin _) c.in-Value.is c.requires

pub returns-in-Found : goal.returns-in-Found
returns-in-Found c =
    ap (answer_of _) (sym c.in-Found.is)

pub returns-in-Value : goal.returns-in-Value
returns-in-Value c =
    ap (answer_of _) (sym c.in-Value.is)

pub returns-in-Spent : goal.returns-in-Spent
returns-in-Spent c =
    ap (answer_of _) (sym c.in-Spent.is)
