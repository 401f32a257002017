-- The statement of `play` leaves nothing open: any two results, answer and output afterwards, that it allows for the same inputs
-- are equal. The other public functions answer by an equation (`answers`). Assumes nothing.
use Prim.Native.Nat.{ℕ}
use mathlib.Core.Path.{◌≡◌, sym, ap, ◌∙◌}
use mathlib.Core.List.{List}
use Rattle.board.specs.Lists.{end_board}
use Rattle.player.specs.Play.{Played}
use Rattle.player.specs.Play.{out_after, PlayedAs}

pub settled :
    (width height : ℕ) (b moves found : List ℕ) (one other : Played) (out out' : List ℕ)
    → PlayedAs width height b moves found one out
    → PlayedAs width height b moves found other out'
    → (one ≡ other) × (out ≡ out')
settled width height b moves found one other out out' p q =
    let same = p.answers ∙ sym q.answers in
    let end = end_board (record { width = width; height = height }) b moves in
    (same, p.leaves ∙ ap (λ answer. out_after answer end found) same ∙ sym q.leaves)
