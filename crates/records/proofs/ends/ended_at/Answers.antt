-- `ends::ended_at` meets its contract: 17, 20 and 19 in their order. What is compared is all of the bytes behind the moves and all four of
-- the mark, also where it is a slice of them that leaves none out (`take_all`). Assumes nothing.
use Rattle.std.proofs.Common.{sym, ◌∙◌, arith, rules}
use Rattle.std.proofs.lemmas.List.{take_all}
use borrow.Author.Tests.{lt-ltb, le-ltb}
use Rattle.board.specs.Tests.{first_refusal}
use Rattle.records.specs.Read.{end_tests}
use Rattle.records.proofs.code.Reading.{end_whole, end_wrong}
use Rattle.records.proofs.ends.ended_at.Goals as goal

pub returns : goal.returns
returns c =
    end_whole _ _ _ _ c.if-bytes-end.false c.if-end-bytes.false c.mark.ensures _ (sym c.ne.ensures ∙ c.if-ne.false) (omega arith)
    (search (rules, take_all))

pub returns-then-bytes-end : goal.returns-then-bytes-end
unfolding end_tests first_refusal
returns-then-bytes-end c =
    rw (lt-ltb _ _ c.if-bytes-end.true)

pub returns-then-end-bytes : goal.returns-then-end-bytes
unfolding end_tests first_refusal
returns-then-end-bytes c =
    rw (le-ltb _ _ c.if-bytes-end.false, lt-ltb _ _ c.if-end-bytes.true)

pub returns-then-ne : goal.returns-then-ne
returns-then-ne c =
    end_wrong _ _ _ _ c.if-bytes-end.false c.if-end-bytes.false c.mark.ensures _ (sym c.ne.ensures ∙ c.if-ne.true) (omega arith)
    (search (rules, take_all))
