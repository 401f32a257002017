-- `search::run` meets its contract: the visit to the start on the lent part of the table, and that part cleared. Assumes nothing.
use Prim.Native.Nat.{ℕ, ◌≤◌}
use mathlib.Core.Path.{◌≡◌, ap, ap₂, ◌∙◌}
use mathlib.Core.List.{List, ◌++◌}
use native.Mathlib.Omega.{arith}
use lib.ListN.{length, take, drop, replicate}
use lib.Seq.{length-take-le, length_front, drop_at}
use Rattle.search.proofs.run.Goals as goal

-- the part is used, then cleared: zeros, and the rest as it was
cleared_part : (k : ℕ) (table part zeros : List ℕ) → k ≤ length table → length part ≡ length (take k table)
    → zeros ≡ replicate (length (take k (part ++ drop k table))) 0
    → zeros ++ drop k (part ++ drop k table) ≡ replicate k 0 ++ drop k table
cleared_part k table part zeros room kept e =
    let long : length part ≡ k = kept ∙ length-take-le k table room in
    let whole : length (part ++ drop k table) ≡ length table = length_front table part k kept in
    ap₂ ◌++◌
    (e ∙ ap (λ (n : ℕ). replicate n 0) (length-take-le k (part ++ drop k table) (omega arith)))
    (drop_at part (drop k table) k long)

pub returns : goal.returns
returns c =
    let ended = rw (c.new.ensures) at c.from_start-out.ensures in
    record {
      answer = ended.answer;
      path = ended.path;
      rows =
          cleared_part _ _ c.from_start-out.new.table _ c.requires.room.rows c.from_start-out.auto.table
          (c.fill.ensures.after (λ y e. e));
    }
