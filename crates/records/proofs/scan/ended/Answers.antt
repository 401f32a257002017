-- `scan::ended` meets its contract: a value of 32 bits, or none. Assumes nothing.
use Prim.Native.Nat.{◌≤◌}
use native.Mathlib.Omega.{arith}
use mathlib.Core.Path.{sym, ap, ◌∙◌}
use Rattle.std.proofs.lemmas.Result.{OkIff-at_ok, OkIff-at_err}
use Rattle.records.specs.Scan.{found}
use Rattle.records.proofs.theory.Scanning.{ended-whole, ended_over}
use Rattle.records.proofs.scan.ended.Goals as goal

pub returns-in-Ok : goal.returns-in-Ok
returns-in-Ok c =
    let fits = OkIff-at_ok _ _ _ _ c.try_from.ensures c.in-Ok.is in
    ap (λ v. found v c.args.next) fits.1 ∙ sym (ended-whole _ _ _ fits.0)

pub returns-in-Err : goal.returns-in-Err
returns-in-Err c =
    let over : 4294967296 ≤ c.args.value = omega (arith, OkIff-at_err _ _ _ _ c.try_from.ensures c.in-Err.is) in
    sym (ended_over _ _ _ over)
