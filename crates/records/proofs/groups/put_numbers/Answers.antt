-- `groups::put_numbers` meets its contract. The invariant: the first i numbers are put. Assumes nothing.
use native.Mathlib.Omega.{arith}
use native.Mathlib.Numerals.{add-one}
use Rattle.records.proofs.theory.Grouping.{spelled_none, spelled-next, spelled-within}
use Rattle.records.proofs.code.Storing.{put-none, put_then, put-length}
use Rattle.records.proofs.groups.put_numbers.Goals as goal

pub loop-n-init : goal.loop-n-init
loop-n-init c =
    rw spelled_none (put-none _ _ _ (omega arith))

pub put_number-next-requires : goal.put_number-next-requires
put_number-next-requires c =
    let put = c.loop-n.invariant in
    omega (
      arith,
      put.end,
      put-length put,
      spelled-within c.args.numbers.now c.loop-n.n-index c.loop-n-test.true,
      c.requires,
    )

pub loop-n-preserved : goal.loop-n-preserved
loop-n-preserved c =
    rw (add-one, spelled-next _ _ c.loop-n-test.true) (put_then c.loop-n.invariant c.put_number-next.ensures)
