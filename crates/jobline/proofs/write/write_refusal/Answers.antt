-- `write::write_refusal` meets its contract: the opening, the visits, the line feed. The length was tested first, so each piece has room.
-- Assumes nothing.
use Prim.Native.Nat.{ℕ, ◌≤◌}
use native.Mathlib.Omega.{arith}
use mathlib.Core.Path.{◌≡◌, refl, ◌∙◌}
use mathlib.Core.List.{List, [], ◌∷◌}
use lib.ListN.{length}
use Rattle.std.proofs.Common.{rules}
use Rattle.jobline.specs.Numeral.{space, line_feed}
use Rattle.jobline.specs.Line.{decimal, opening, refused_word, refused_line}
use Rattle.jobline.proofs.theory.Lines.{refused-pieces}
use Rattle.jobline.proofs.code.Puts.{InPieces, front_fits, middle_fits, end_fits, line-put}
use Rattle.jobline.proofs.write.write_refusal.Goals as goal

-- the line in pieces; the test shows that it has room
pieces : (number cell visits : ℕ) (out : List ℕ) (needed : ℕ) → needed ≡ length (refused_line number cell visits) → needed ≤ length out
    → InPieces (opening refused_word number cell) (space ∷ decimal visits) (line_feed ∷ []) (refused_line number cell visits) out
pieces number cell visits out needed e room = record { joined = refused-pieces number cell visits; room = omega arith }

pub opening-requires : goal.opening-requires
opening-requires c =
    front_fits (pieces _ _ _ _ _ c.refusal_length.ensures c.if-out-refusal_length.false)

pub field-requires : goal.field-requires
field-requires c =
    middle_fits (pieces _ _ _ _ _ c.refusal_length.ensures c.if-out-refusal_length.false) refl refl c.opening.ensures

pub byte-requires : goal.byte-requires
byte-requires c =
    end_fits (pieces _ _ _ _ _ c.refusal_length.ensures c.if-out-refusal_length.false) refl refl c.opening.ensures c.field.ensures

pub returns : goal.returns
returns c =
    let put = line-put (pieces _ _ _ _ _ c.refusal_length.ensures c.if-out-refusal_length.false) refl refl
    c.opening.ensures c.field.ensures c.byte.ensures in
    let same = c.byte.ensures.same_buffer ∙ c.field.ensures.same_buffer ∙ c.opening.ensures.same_buffer in
    search rules
