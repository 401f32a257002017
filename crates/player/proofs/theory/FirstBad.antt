-- The first bad move in terms of the board part's legal lists: no move is bad exactly if the list is legal; and place i is the
-- first bad move's exactly if the moves before it are a legal list and move i is not legal on the board that they end at.
-- Before these, one more move of a list, and its tests one by one. Assumes nothing.
use Prim.Native.Nat.{ℕ, zero, suc, ◌≤◌, ◌<◌}
use mathlib.Core.Path.{◌≡◌, refl, sym, ap, ap₂, subst, ◌∙◌}
use mathlib.Core.Logic.{◌↔◌}
use mathlib.Core.Bool.{Bool, true, false, not}
use mathlib.Core.List.{List, [], ◌∷◌, ◌++◌}
use native.Mathlib.Omega.{arith}
use lib.Dec.{T}
use lib.ListN.{length, take, get_or}
use lib.Seq.{take-suc, take-take, get_or-take, length-take-le}
use borrow.Author.Tests.{not-true, not-false}
use Rattle.board.specs.declared.Shape.{Shape}
use Rattle.board.specs.First.{first_of}
use Rattle.board.specs.Moves.{legal, after}
use Rattle.board.specs.Lists.{LegalList, end_board}
use Rattle.board.proofs.Laws.{first_of_high, first_of_holds, first_of_fails, first_of_found, first_of_none}
use Rattle.player.specs.Play.{bad_at, first_bad}

passes : {t : Bool} → t ≡ true → T t
passes e = subst T (sym e) tt

passed : (t : Bool) → T t → t ≡ true
passed true h = refl
passed false h = absurd h

-- ---- one more move

end_snoc : (s : Shape) (b ms : List ℕ) (m : ℕ) → end_board s b (ms ++ (m ∷ [])) ≡ after s (end_board s b ms) m
end_snoc s b [] m = refl
end_snoc s b (k ∷ ms) m = end_snoc s (after s b k) ms m

pub end-next :
    (s : Shape) (b ms : List ℕ) (i : ℕ)
    → i < length ms
    → end_board s b (take (suc i) ms) ≡ after s (end_board s b (take i ms)) (get_or ms i 0)
end-next s b ms i below = ap (end_board s b) (take-suc ms i 0 below) ∙ end_snoc s b (take i ms) (get_or ms i 0)

-- ---- a legal list, move by move

no_bad-legal : (s : Shape) (b ms : List ℕ) → ((i : ℕ) → i < length ms → bad_at s b ms i ≡ false) → LegalList s b ms
no_bad-legal s b [] good = tt
no_bad-legal s b (m ∷ ms) good = (
  passes (not-false (legal s b m) (good 0 (omega arith))),
  no_bad-legal s (after s b m) ms (λ i below. good (suc i) (omega arith)),
)

legal_no_bad : (s : Shape) (b ms : List ℕ) → LegalList s b ms → (i : ℕ) → i < length ms → bad_at s b ms i ≡ false
legal_no_bad s b [] plays i below = absurd (omega arith)
legal_no_bad s b (m ∷ ms) plays zero below = ap not (passed (legal s b m) plays.0)
legal_no_bad s b (m ∷ ms) plays (suc i) below = legal_no_bad s (after s b m) ms plays.1 i (omega arith)

-- the moves before place k are bad in the list where they are bad by themselves
bad-before : (s : Shape) (b ms : List ℕ) (i k : ℕ) → i < k → bad_at s b (take k ms) i ≡ bad_at s b ms i
bad-before s b ms i k below =
    ap₂ (λ front m. not (legal s (end_board s b front) m)) (take-take i k ms (omega arith)) (get_or-take k ms i 0 below)

-- ---- the first bad move

module _ (s : Shape) (b ms : List ℕ) where
  pub first-bad-within : first_bad s b ms ≤ length ms
  unfolding first_bad
  first-bad-within = omega (arith, first_of_high (bad_at s b ms) 0 (length ms))

  pub no_bad-move : (first_bad s b ms ≡ length ms) ↔ LegalList s b ms
  unfolding first_bad
  no_bad-move = (
    λ e. no_bad-legal s b ms (λ i below. first_of_fails (bad_at s b ms) 0 (length ms) i (omega arith) (omega arith)),
    λ plays. first_of_none (bad_at s b ms) 0 (length ms) (λ i low below. legal_no_bad s b ms plays i (omega arith)) ∙ omega arith,
  )

  pub first-bad-move :
      (i : ℕ)
      → i < length ms
      → (first_bad s b ms ≡ i) ↔ (LegalList s b (take i ms) × (legal s (end_board s b (take i ms)) (get_or ms i 0) ≡ false))
  unfolding first_bad
  first-bad-move i below = (
    λ e. (before e, not-true _ (rw e at (first_of_holds (bad_at s b ms) 0 (length ms) (omega arith)))),
    λ h. first_of_found (bad_at s b ms) 0 (length ms) i (omega arith) (omega arith) (good h.0) (ap not h.1),
  )
    where
      before : first_of (bad_at s b ms) 0 (length ms) ≡ i → LegalList s b (take i ms)
      before e =
          no_bad-legal s b (take i ms)
          (λ j h.
          let inside : j < i = omega (arith, length-take-le i ms (omega arith)) in
          bad-before s b ms j i inside ∙ first_of_fails (bad_at s b ms) 0 (length ms) j (omega arith) (omega arith))

      good : LegalList s b (take i ms) → (j : ℕ) → 0 ≤ j → j < i → bad_at s b ms j ≡ false
      good plays j low inside =
          sym (bad-before s b ms j i inside)
          ∙ legal_no_bad s b (take i ms) plays j (omega (arith, length-take-le i ms (omega arith)))
