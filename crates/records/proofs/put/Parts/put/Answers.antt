-- `put::Parts::put` meets its contract: the pieces one behind the other, and then the mark of what stands there. Assumes nothing.
use Prim.Native.Nat.{ℕ, ◌≤◌}
use mathlib.Core.Path.{◌≡◌, sym, ap, subst, ◌∙◌}
use mathlib.Core.List.{List}
use native.Mathlib.Omega.{arith}
use lib.ListN.{length, take, drop}
use lib.Seq.{take_at, length-take-le}
use Rattle.records.specs.Mark.{mark, mark_bytes}
use Rattle.records.specs.Record.{sealed}
use Rattle.records.specs.Put.{Put}
use Rattle.records.specs.Parts.{body_of}
use Rattle.records.proofs.theory.Lengths.{sealed_body}
use Rattle.records.proofs.theory.Marks.{sealed-length}
use Rattle.records.proofs.code.Storing.{put_front, put_then, put-length}
use Rattle.records.proofs.put.Parts.put.Goals.{After-put_bytes-end}
use Rattle.records.proofs.put.Parts.put.Goals as goal

-- what was put stands before the place behind it, so its mark is the mark of what stands there
sealed_put : {bytes four old mid new : List ℕ} {m written next end : ℕ} → Put bytes old 0 mid next → length (sealed bytes) ≤ length old
    → m ≡ mark (take next mid) → four ≡ mark_bytes written → Put four mid next new end → written ≡ m → Put (sealed bytes) old 0 new end
unfolding sealed
sealed_put {bytes} {four} {old} {mid} {new} {m} {written} {next} {end} put room marks are behind is =
    let stands : take next mid ≡ bytes =
    ap (take next) (put_front put (omega (arith, sealed-length bytes)))
    ∙ take_at bytes (drop (length bytes) old) next (omega (arith, put.end)) in
    put_then put (subst (λ l. Put l mid next new end) (are ∙ ap mark_bytes (is ∙ marks ∙ ap mark stands)) behind)

-- all pieces
whole : (c : After-put_bytes-end) → Put (body_of c.args.self.now) c.args.out.now 0 c.put_bytes-end.new.out c.put_bytes-end.result
whole c =
    put_then (put_then c.put_numbers-next.ensures c.put_bytes-next.ensures)
    (put_then c.put_numbers-next-2.ensures c.put_bytes-end.ensures)

pub put_numbers-next-requires : goal.put_numbers-next-requires
put_numbers-next-requires c =
    omega (arith, c.requires, sealed_body c.args.self.now)

pub put_bytes-next-requires : goal.put_bytes-next-requires
put_bytes-next-requires c =
    omega (arith, c.requires, sealed_body c.args.self.now, put-length c.put_numbers-next.ensures)

pub put_numbers-next-requires-2 : goal.put_numbers-next-requires-2
put_numbers-next-requires-2 c =
    let front = put_then c.put_numbers-next.ensures c.put_bytes-next.ensures in
    omega (arith, c.requires, sealed_body c.args.self.now, put-length front)

pub put_bytes-end-requires : goal.put_bytes-end-requires
put_bytes-end-requires c =
    let front = put_then (put_then c.put_numbers-next.ensures c.put_bytes-next.ensures) c.put_numbers-next-2.ensures in
    omega (arith, c.requires, sealed_body c.args.self.now, put-length front)

pub slice_bounds-mark-end : goal.slice_bounds-mark-end
slice_bounds-mark-end c =
    let put = whole (goal.at.slice_bounds-mark-end c).After-put_bytes-end in
    omega (arith, c.requires, sealed_body c.args.self.now, put-length put)

pub slice_bounds-mark-end-2 : goal.slice_bounds-mark-end-2
slice_bounds-mark-end-2 c =
    sym (length-take-le _ _ (slice_bounds-mark-end c))

pub put_bytes-requires : goal.put_bytes-requires
put_bytes-requires c =
    let put = whole (goal.at.put_bytes-requires c).After-put_bytes-end in
    omega (arith, c.requires, sealed_body c.args.self.now, put-length put, ap length c.to_be_bytes.ensures)

pub returns : goal.returns
returns c =
    sealed_put (whole (goal.at.returns c).After-put_bytes-end) c.requires c.mark-mark.ensures c.to_be_bytes.ensures c.put_bytes.ensures
    (omega arith)
