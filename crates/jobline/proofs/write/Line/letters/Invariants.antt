-- What the loop of `Line::letters` keeps: the letters of the moves so far were put. Assumes nothing.
use mathlib.Core.List.{map}
use lib.ListN.{take}
use Rattle.jobline.specs.Line.{letter}
use Rattle.jobline.specs.Put.{Wrote}
use Rattle.jobline.proofs.write.Line.letters.Given as goal

abbrev pub invariant-loop-m : goal.invariant-loop-m
invariant-loop-m l = Wrote (take l.m-index (map letter l.moves)) l.initial.self l.self
