-- `mark::mark` meets its contract: each turn of the fold takes one byte more into the mark, and what is folded over is all of the bytes,
-- also where it is a slice of them that leaves none out (`take_all`). Assumes nothing.
use Rattle.std.proofs.Common.{◌≡◌, rules, sym}
use Rattle.std.proofs.lemmas.Fn.{fold_over, slice_gives, fronts}
use Rattle.std.proofs.lemmas.List.{take_all}
use Rattle.records.specs.Mark.{mark}
use Rattle.records.proofs.theory.Marks.{mark-none, mark-snoc}
use Rattle.records.proofs.mark.mark.Goals as goal

pub returns : goal.returns
returns c =
    let told = fold_over fronts (λ y. y.now) _ (λ ys m. m ≡ mark ys) _ (λ ys a x b f' j k. let next = mark-snoc ys x.now in search rules)
    _ _ _ _ (slice_gives c.iter.result) (sym mark-none) c.fold.ensures.ran in
    search (rules, take_all)
