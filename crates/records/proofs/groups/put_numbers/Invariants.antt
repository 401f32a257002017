-- What the loop of `records::groups::put_numbers` keeps. Assumes nothing.
use lib.ListN.{take}
use Rattle.records.specs.Groups.{spelled}
use Rattle.records.specs.Put.{Put}
use Rattle.records.proofs.groups.put_numbers.Given as goal

abbrev pub invariant-loop-n : goal.invariant-loop-n
invariant-loop-n l =
    Put (spelled (take l.n-index l.numbers)) l.initial.out l.at l.out l.next
