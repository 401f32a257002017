-- What the loop of `records::put::put_bytes` keeps. Assumes nothing.
use Prim.Native.Nat.{◌+◌}
use lib.ListN.{take}
use Rattle.records.specs.Put.{Put}
use Rattle.records.proofs.put.put_bytes.Given as goal

abbrev pub invariant-loop-i : goal.invariant-loop-i
invariant-loop-i l =
    Put (take l.i l.bytes) l.initial.out l.at l.out (l.at + l.i)
