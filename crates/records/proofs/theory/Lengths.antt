-- How long a record is: of its numbers only the visits can need more than one group, and they need at most three. Assumes nothing.
use Prim.Native.Nat.{ℕ, ◌+◌, ◌≤◌}
use mathlib.Core.Path.{◌≡◌, sym, ap, ◌∙◌}
use mathlib.Core.List.{List, [], ◌∷◌}
use native.Mathlib.Omega.{arith}
use lib.ListN.{length, length-append}
use Rattle.std.specs.List.{sum_by}
use Rattle.std.proofs.lemmas.List.Sums.{sum_by-cons}
use Rattle.board.proofs.Laws.{side_within, cells-within}
use Rattle.records.specs.Groups.{groups, spelled}
use Rattle.records.specs.Record.{Fields, shape_numbers, plan_numbers, body, sealed, record_of}
use Rattle.records.specs.declared.put.Parts.{Parts}
use Rattle.records.specs.Parts.{body_of}
use Rattle.records.specs.Write.{Passed}
use Rattle.records.proofs.theory.Grouping.{groups-few, spelled_none}
use Rattle.records.proofs.theory.Marks.{sealed-length}
use Rattle.records.proofs.theory.Pieces.{body-pieces}

spelled-length : (n : ℕ) (ns : List ℕ) → length (spelled (n ∷ ns)) ≡ length (groups n) + length (spelled ns)
unfolding spelled
spelled-length n ns = length-append (groups n) (spelled ns)

none-length : length (spelled []) ≡ 0
none-length = ap length spelled_none

-- how many groups numbers have, added up
pub spelled-sum : (ns : List ℕ) → sum_by (λ n. length (groups n)) ns ≡ length (spelled ns)
spelled-sum [] = sym none-length
spelled-sum (n ∷ ns) =
    sum_by-cons (λ n. length (groups n)) n ns ∙ ap (λ k. length (groups n) + k) (spelled-sum ns) ∙ sym (spelled-length n ns)

-- a record's parts, as their lengths are added up
pub body-length : (parts : Parts)
    → length (body_of parts)
    ≡ sum_by (λ n. length (groups n)) parts.shape + length parts.board.now + sum_by (λ n. length (groups n)) parts.plan
    + length parts.moves.now
body-length parts = rw (spelled-sum parts.shape, spelled-sum parts.plan) (simp length-append (omega arith))

pub sealed_body : (parts : Parts)
    → length (sealed (body_of parts))
    ≡ length (spelled parts.shape) + length parts.board.now + length (spelled parts.plan) + length parts.moves.now + 4
sealed_body parts = sealed-length (body_of parts) ∙ simp length-append (omega arith)

-- fields within all limits
pub record Limited (f : Fields) : Type 0 where
  pub passed : Passed f
  pub p-most : f.p ≤ 64
  pub q-most : f.q ≤ 64
  pub visits-most : f.visits ≤ 1000000
  pub moves-most : length f.moves ≤ 120

module _ (f : Fields) (limited : Limited f) where
  shape_two : length (spelled (shape_numbers f)) ≤ 2
  shape_two =
      let sides = limited.passed.shape in
      omega (
        arith,
        spelled-length f.width (f.height ∷ []),
        spelled-length f.height [],
        none-length,
        groups-few 0 f.width (omega (arith, (side_within sides.wide).most)),
        groups-few 0 f.height (omega (arith, (side_within sides.high).most)),
      )

  -- one group each, and three for the visits
  plan_seven : length (spelled (plan_numbers f)) ≤ 7
  plan_seven =
      let moves = length f.moves in
      omega (
        arith,
        spelled-length f.ceiling (f.p ∷ f.q ∷ f.visits ∷ moves ∷ []),
        spelled-length f.p (f.q ∷ f.visits ∷ moves ∷ []),
        spelled-length f.q (f.visits ∷ moves ∷ []),
        spelled-length f.visits (moves ∷ []),
        spelled-length moves [],
        none-length,
        groups-few 0 f.ceiling (omega (arith, limited.passed.ceiling)),
        groups-few 0 f.p (omega (arith, limited.p-most)),
        groups-few 0 f.q (omega (arith, limited.q-most)),
        groups-few 2 f.visits (omega (arith, limited.visits-most)),
        groups-few 0 moves (omega (arith, limited.moves-most)),
      )

  pub body-most : length (body f) ≤ 145
  body-most =
      let board = limited.passed.board in
      rw (body-pieces f limited.passed)
      (simp length-append
      (omega (arith, shape_two, plan_seven, board.long, (cells-within limited.passed.shape).most, limited.moves-most)))

  pub record_most : length (record_of f) ≤ 149
  record_most = omega (arith, sealed-length (body f), body-most)
