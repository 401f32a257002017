-- What the loop of `records::scan::numbers_at` keeps. Assumes nothing.
use lib.ListN.{length}
use Rattle.records.proofs.code.Taking.{Taken}
use Rattle.records.proofs.scan.numbers_at.Given as goal

abbrev pub invariant-loop-number : goal.invariant-loop-number
invariant-loop-number l =
    Taken l.bytes l.from (length l.initial.numbers) l.numbers l.at l.number-index
