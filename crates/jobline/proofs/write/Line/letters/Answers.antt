-- `Line::letters` meets its contract: a space, and then a dash or the letters.
-- Assumes nothing.
use Prim.Native.Nat.{ℕ, ◌+◌, ◌≤◌, ◌<◌}
use native.Mathlib.Omega.{arith}
use mathlib.Core.Path.{◌≡◌}
use mathlib.Core.List.{List, [], ◌∷◌, map}
use lib.ListN.{length, get_or, take, length-map, get_or-map}
use lib.Seq.{length-take-le}
use Rattle.std.proofs.lemmas.List.{take_more}
use Rattle.jobline.specs.declared.write.Line.{Line}
use Rattle.jobline.specs.Line.{letter, letters}
use Rattle.jobline.specs.Put.{HasRoom, Wrote}
use Rattle.jobline.proofs.theory.Lines.{letters-length}
use Rattle.jobline.proofs.code.Puts.{wrote_then, wrote-length}
use Rattle.jobline.proofs.write.Line.letters.Goals as goal

-- the letters of the first i moves stand behind the space, and there is room for one more
next-fits : (moves : List ℕ) (i : ℕ) {old mid now : Line} → HasRoom (32 ∷ letters moves) old → Wrote (32 ∷ []) old mid
    → Wrote (take i (map letter moves)) mid now → i < length moves → now.at + 1 ≤ length now.out.now
next-fits moves i h a b inside =
    omega (
      arith,
      a.put.end,
      b.put.end,
      wrote-length a,
      wrote-length b,
      letters-length moves,
      length-map moves letter,
      length-take-le i (map letter moves) (omega (arith, length-map moves letter)),
    )

-- one more letter
more : (moves : List ℕ) (i v : ℕ) {old mid new : Line} → Wrote (take i (map letter moves)) old mid → Wrote (v ∷ []) mid new
    → v ≡ letter (get_or moves i 0) → i < length moves → Wrote (take (i + 1) (map letter moves)) old new
more moves i v a b e inside =
    rw (take_more (map letter moves) i (letter 0) (omega (arith, length-map moves letter)), get_or-map letter moves i 0, ← e)
    (wrote_then a b)

pub byte-requires-in-loop-m : goal.byte-requires-in-loop-m
byte-requires-in-loop-m c =
    next-fits c.args.moves.now _ c.requires c.byte.ensures c.loop-m.invariant c.loop-m-test.true

pub loop-m-preserved : goal.loop-m-preserved
loop-m-preserved c =
    more c.args.moves.now _ _ c.loop-m.invariant c.byte-in-loop-m.ensures c.letter_of.ensures c.loop-m-test.true
