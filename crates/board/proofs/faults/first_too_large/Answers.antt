-- `board::faults::first_too_large` meets its contract: it is the first byte that is n or more. Assumes nothing.
use Rattle.std.proofs.Common.{◌∙◌, rules, tests, length, nat_le}
use Rattle.std.proofs.lemmas.Iterator.{YieldsList-from_slice}
use Rattle.std.proofs.lemmas.Iterator.Search.{position_from_yields_List}
use Rattle.board.specs.Faults.{first_too_large}
use Rattle.board.proofs.theory.Firsts.{position_is}
use Rattle.board.proofs.faults.first_too_large.Goals as goal

pub returns : goal.returns
unfolding first_too_large
returns c =
    position_from_yields_List (nat_le (length c.args.board.now)) _ _ _ c.position.ensures.ran
    (YieldsList-from_slice c.args.board.now cc)
    (λ y b q k. search (rules, tests))
    ∙ position_is (nat_le (length c.args.board.now)) c.args.board.now
