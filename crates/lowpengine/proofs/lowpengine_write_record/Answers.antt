-- `lowpengine::lowpengine_write_record` meets its contract: the record writer's answer, packed, and its output. Assumes nothing.
use Prim.Native.Nat.{ℕ}
use mathlib.Core.Path.{◌≡◌, ap, subst, ◌∙◌}
use mathlib.Core.List.{List}
use lib.IntN.{ℤ}
use mir.Syntax.{w32}
use mir.ValLaws.{to_z-of_z}
use Rattle.std.specs.Prelude.{Result}
use Rattle.records.specs.declared.PlanRefusal.{PlanRefusal}
use Rattle.records.specs.Write.{Settles, given, written}
use Rattle.lowpengine.specs.Packed.{packed_record}
use Rattle.lowpengine.proofs.lowpengine_write_record.Goals as goal

-- the ceiling is handed on as the same number
handed_on : (width height : ℕ) (b : List ℕ) (z y : ℤ) (p q visits : ℕ) (moves found : List ℕ) (answer : Result ℕ PlanRefusal)
    (out : List ℕ)
    → y ≡ z → Settles (written (given width height b y p q visits moves) found) answer out
    → Settles (written (given width height b z p q visits moves) found) answer out
handed_on width height b z y p q visits moves found answer out e settled =
    subst (λ x. Settles (written (given width height b x p q visits moves) found) answer out) e settled

pub returns : goal.returns
returns c =
    let wrote = handed_on _ _ _ _ _ _ _ _ _ _ _ _ (to_z-of_z w32 _ c.ranges.ceiling) c.write-answer.ensures in
    record { result = c.packed_record.ensures ∙ ap packed_record wrote.answers; out = wrote.leaves }
