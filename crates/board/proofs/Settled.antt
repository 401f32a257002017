-- What the statements of the public functions settle: any two results that one of them allows are equal.
--     one-position      `held::hold` and `Cabinet::after` make the same position of the same board
--     one_moved         `Cabinet::after`
--     one_changed       `moves::changed`
--     one_table         `distance::distances`
--     one-near-table    the table that a `Cabinet` keeps
--     one-cabinet       `Cabinet::new`
-- Every other public function's statement is an equation `r ≡ ..`, which allows one result by itself. Assumes nothing.
use Prim.Native.Nat.{ℕ, ◌+◌, ◌*◌, ◌/◌, ◌%◌, ◌<◌}
use mathlib.Core.Path.{◌≡◌, sym, ap, ◌∙◌}
use mathlib.Core.List.{List}
use mathlib.Core.HLevel.{is_prop→PathP}
use denote.Struct.Props.{props}
use native.Mathlib.Omega.{arith}
use lib.ListN.{length, get_or}
use lib.IntN.{ℤ, pos, ◌+ℤ◌, nat_abs}
use lib.Seq.{ext_get_or}
use Rattle.board.specs.declared.Shape.{Shape}
use Rattle.board.specs.declared.Position.{Position}
use Rattle.board.specs.declared.Moved.{Moved}
use Rattle.board.specs.declared.cabinet.Cabinet.{Cabinet}
use Rattle.board.specs.Shape.{cells, GoodShape}
use Rattle.board.specs.Once.{Side-prop}
use Rattle.board.specs.Board.{empty_cell}
use Rattle.board.specs.Distance.{DistanceTable, NearTable}
use Rattle.board.specs.Moves.{after}
use Rattle.board.specs.Distance.{distance}
use Rattle.board.specs.Held.{held, Taken}
use Rattle.board.specs.Change.{MovedBy}
use Rattle.board.proofs.theory.Digits.{packed, packed-digits}
use Rattle.board.proofs.theory.Changes.{one-change}

position-is : (p q : Position) → p.cells ≡ q.cells → p.empty ≡ q.empty → p ≡ q
position-is p q e f = λ i. record { cells = e i; empty = f i }

pub one-position : (s : Shape) (b : List ℕ) (p q : Position) → Taken s b p → Taken s b q → p ≡ q
one-position s b p q t u = position-is p q whole (t.holds.empty ∙ ap empty_cell same ∙ sym u.holds.empty)
  where
    same : held s p ≡ held s q
    same = t.same ∙ sym u.same

    -- a number is what its digits make, as there is nothing above them
    whole : p.cells ≡ q.cells
    whole =
        sym (packed-digits (cells s) p.cells t.holds.rest)
        ∙ ap packed same
        ∙ packed-digits (cells s) q.cells u.holds.rest

moved_is : (r r' : Moved) → r.position ≡ r'.position → r.change ≡ r'.change → r ≡ r'
moved_is r r' e f = λ i. record { position = e i; change = f i }

pub one_moved : (s : Shape) (b : List ℕ) (m : ℕ) (r r' : Moved) → MovedBy s b m r → MovedBy s b m r' → r ≡ r'
one_moved s b m r r' p q =
    moved_is r r' (one-position s (after s b m) r.position r'.position p.position q.position)
    (one-change (distance s (after s b m)) (distance s b) p.one_step q.one_step p.sum q.sum)

pub one_changed : (h : ℕ) (z : ℤ) (r r' : ℕ) → pos r ≡ pos h +ℤ z → pos r' ≡ pos h +ℤ z → r ≡ r'
one_changed h z r r' p q = ap nat_abs (p ∙ sym q)

pub one_table : (t u : List ℕ) → DistanceTable t → DistanceTable u → t ≡ u
one_table t u p q = ext_get_or 0 t u (p.long ∙ sym q.long) entries
  where
    entries : (i : ℕ) → i < length t → get_or t i 0 ≡ get_or u i 0
    entries i below =
        let at : i ≡ 16 * (i / 16) + i % 16 = omega arith in
        ap (λ (k : ℕ). get_or t k 0) at
        ∙ p.entry (i / 16) (i % 16) (omega (arith, p.long)) (omega arith)
        ∙ sym (q.entry (i / 16) (i % 16) (omega (arith, p.long)) (omega arith))
        ∙ ap (λ (k : ℕ). get_or u k 0) (sym at)

pub one-near-table : (s : Shape) (l m : List ℕ) → NearTable s l → NearTable s m → l ≡ m
one-near-table s l m p q =
    ext_get_or 0 l m (p.long ∙ sym q.long) (λ k below. p.entry k (omega (arith, p.long)) ∙ sym (q.entry k (omega (arith, p.long))))

cabinet-is : (c d : Cabinet) → c.shape ≡ d.shape → c.near ≡ d.near → c ≡ d
cabinet-is c d e f =
    λ i. record {
      shape = e i;
      near = f i;
      good = is_prop→PathP (λ j. GoodShape (e j)) (λ j. hlevel (props, Side-prop)) c.good d.good i;
      table = is_prop→PathP (λ j. NearTable (e j) (f j)) (λ j. hlevel props) c.table d.table i;
    }

pub one-cabinet : (s : Shape) (c d : Cabinet) → c.shape ≡ s → d.shape ≡ s → c ≡ d
one-cabinet s c d p q =
    let same = p ∙ sym q in
    cabinet-is c d same (one-near-table d.shape c.near d.near (rw same at c.table) d.table)
