-- `board::faults::first_holding` meets its contract: it is the first cell that holds x. Assumes nothing.
use Rattle.std.proofs.Common.{◌∙◌, rules, tests, nat_eq}
use Rattle.std.proofs.lemmas.Iterator.{YieldsList-from_slice}
use Rattle.std.proofs.lemmas.Iterator.Search.{position_from_yields_List}
use Rattle.board.specs.Faults.{first_holding}
use Rattle.board.proofs.theory.Firsts.{position_is}
use Rattle.board.proofs.faults.first_holding.Goals as goal

pub returns : goal.returns
unfolding first_holding
returns c =
    position_from_yields_List (λ y. nat_eq y c.args.x) _ _ _ c.position.ensures.ran (YieldsList-from_slice c.args.board.now cc)
    (λ y b q k. search (rules, tests))
    ∙ position_is (λ y. nat_eq y c.args.x) c.args.board.now
