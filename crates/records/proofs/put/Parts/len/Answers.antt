-- `put::Parts::len` meets its contract: the lengths of the pieces, and four for the mark. Assumes nothing.
use native.Mathlib.Omega.{arith}
use Rattle.records.specs.Parts.{body_of}
use Rattle.records.proofs.theory.Lengths.{body-length}
use Rattle.records.proofs.theory.Marks.{sealed-length}
use Rattle.records.proofs.put.Parts.len.Goals as goal

pub groups_count-requires : goal.groups_count-requires
groups_count-requires c =
    omega (arith, c.args.self.now.short, body-length c.args.self.now)

pub groups_count-requires-2 : goal.groups_count-requires-2
groups_count-requires-2 c =
    omega (arith, c.args.self.now.short, body-length c.args.self.now)

pub overflow_add-result : goal.overflow_add-result
overflow_add-result c =
    omega (arith, c.args.self.now.short, body-length c.args.self.now)

pub overflow_add-result-2 : goal.overflow_add-result-2
overflow_add-result-2 c =
    omega (arith, c.args.self.now.short, body-length c.args.self.now)

pub overflow_add-result-3 : goal.overflow_add-result-3
overflow_add-result-3 c =
    omega (arith, c.args.self.now.short, body-length c.args.self.now)

pub overflow_add-result-4 : goal.overflow_add-result-4
overflow_add-result-4 c =
    omega (arith, c.args.self.now.short, body-length c.args.self.now)

pub returns : goal.returns
returns c =
    omega (arith, body-length c.args.self.now, sealed-length (body_of c.args.self.now))
