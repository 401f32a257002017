-- `write::write_plan` meets its contract: the opening, the letters, the line feed. The length was tested first, so each piece has room.
-- Assumes nothing.
use Prim.Native.Nat.{ℕ, ◌≤◌}
use native.Mathlib.Omega.{arith}
use mathlib.Core.Path.{◌≡◌, refl, ◌∙◌}
use mathlib.Core.List.{List, [], ◌∷◌}
use lib.ListN.{length}
use Rattle.std.proofs.Common.{rules}
use Rattle.jobline.specs.Numeral.{space, line_feed}
use Rattle.jobline.specs.Line.{letters, opening, plan_word, plan_line}
use Rattle.jobline.proofs.theory.Lines.{plan-pieces}
use Rattle.jobline.proofs.code.Puts.{InPieces, front_fits, middle_fits, end_fits, line-put}
use Rattle.jobline.proofs.write.write_plan.Goals as goal

-- the line in pieces; the test shows that it has room
pieces : (visits : ℕ) (moves out : List ℕ) (needed : ℕ) → needed ≡ length (plan_line visits moves) → needed ≤ length out
    → InPieces (opening plan_word (length moves) visits) (space ∷ letters moves) (line_feed ∷ []) (plan_line visits moves) out
pieces visits moves out needed e room = record { joined = plan-pieces visits moves; room = omega arith }

pub opening-requires : goal.opening-requires
opening-requires c =
    front_fits (pieces _ _ _ _ c.plan_length.ensures c.if-out-plan_length.false)

pub letters-requires : goal.letters-requires
letters-requires c =
    middle_fits (pieces _ _ _ _ c.plan_length.ensures c.if-out-plan_length.false) refl refl c.opening.ensures

pub byte-requires : goal.byte-requires
byte-requires c =
    end_fits (pieces _ _ _ _ c.plan_length.ensures c.if-out-plan_length.false) refl refl c.opening.ensures c.letters.ensures

pub returns : goal.returns
returns c =
    let put = line-put (pieces _ _ _ _ c.plan_length.ensures c.if-out-plan_length.false) refl refl
    c.opening.ensures c.letters.ensures c.byte.ensures in
    let same = c.byte.ensures.same_buffer ∙ c.letters.ensures.same_buffer ∙ c.opening.ensures.same_buffer in
    search rules
