-- `scan::number_at` meets its contract: a first byte of 128, or the groups. Assumes nothing.
use Prim.Native.Nat.{ℕ}
use mathlib.Core.Path.{◌≡◌, refl, sym, ap, ◌∙◌}
use mathlib.Core.List.{List}
use lib.Dec.{eqb}
use lib.ListN.{get_or, get_or-eq_default}
use borrow.Author.Tests.{ltb-true, ltb-false}
use denote.Ref.{Bor}
use Rattle.std.specs.Prelude.{Option, Some, None, nat_eq}
use Rattle.std.specs.Option.{option_eq}
use Rattle.std.specs.Slice.{IsItemAt}
use Rattle.std.proofs.lemmas.List.{get_or_default}
use Rattle.records.specs.Scan.{number_at}
use Rattle.records.proofs.scan.number_at.Goals as goal

-- no byte at all is none of 128
is-first : (bytes : List ℕ) (at : ℕ) (o : Option (Bor ℕ)) (b : Bor ℕ) → b.now ≡ 128 → IsItemAt bytes at o
    → option_eq (λ x y. nat_eq x.now y.now) o (Some b) ≡ eqb (get_or bytes at 0) 128
is-first bytes at None b is item =
    sym (ap (λ k. eqb k 128) (get_or-eq_default bytes 0 (ltb-false _ _ (sym item.0))))
is-first bytes at (Some x) b is item =
    ap (λ k. eqb k b.now) (item.1 ∙ get_or_default bytes at x.now 0 (ltb-true _ _ (sym item.0))) ∙ ap (eqb (get_or bytes at 0)) is

pub returns-then-eq : goal.returns-then-eq
unfolding number_at
returns-then-eq c =
    rw (sym (is-first _ _ c.get.result _ refl c.get.ensures.lookup) ∙ sym c.eq.ensures ∙ c.if-eq.true)

pub returns : goal.returns
unfolding number_at
returns c =
    rw (sym (is-first _ _ c.get.result _ refl c.get.ensures.lookup) ∙ sym c.eq.ensures ∙ c.if-eq.false) c.groups_at.ensures
