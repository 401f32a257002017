-- Which moves a row holds values of: those that are successors, and where the value is below infinity, only legal ones. First a
-- first row by its moves, then that a row's finite values belong to legal moves, from the first row on. Rests on `Rows.antt` and
-- the law that a move is one of four. Assumes nothing.
use Prim.Native.Nat.{ℕ, suc, ◌+◌, ◌≤◌, ◌<◌}
use mathlib.Core.Path.{◌≡◌, refl, sym, subst}
use mathlib.Core.Bool.{Bool, true, false, cond, not, ◌&&◌}
use mathlib.Core.List.{List}
use native.Mathlib.Omega.{arith}
use native.Mathlib.Decide.{dec_lt}
use lib.Dec.{T}
use lib.ListN.{set}
use borrow.Author.Tests.{eqb-true, eqb-false, ltb-true, ltb-false}
use Rattle.search.specs.Space.{Space}
use Rattle.search.specs.Row.{infinity, entry, best, goes_on, takes_back, first_stored, above_ceiling}
use Rattle.search.specs.Search.{is_successor, first_entry, first_row}
use Rattle.search.proofs.theory.Laws.{Laws}
use Rattle.search.proofs.theory.Walks.{Steps}
use Rattle.search.proofs.theory.Rows.{best-finite, set-each, first_entry_lem, first_beyond}

module _ (S : Space) (f : ℕ → S.State → ℕ) (ceiling : ℕ) where
  -- what holds of a first value and of infinity holds of the first entry: of the first value where the move makes a successor from
  -- which the ceiling can be met, and of infinity otherwise
  pub first-value : (P : ℕ → Type 0) (g : ℕ) (s : S.State) (last stored m : ℕ)
      → (Steps S last s m → suc g + S.dist (S.makes s m) ≤ ceiling → P (first_stored (f g s) stored (f (suc g) (S.makes s m))))
      → ((Steps S last s m → ceiling < suc g + S.dist (S.makes s m)) → P infinity) → P (first_entry S f ceiling g s last stored m)
  unfolding first_entry is_successor above_ceiling
  first-value P g s last stored m within out =
      go (S.may s m) refl (takes_back last m) refl (above_ceiling ceiling (suc g) (S.dist (S.makes s m))) refl
    where
      go : (legal : Bool) → S.may s m ≡ legal → (back : Bool) → takes_back last m ≡ back
          → (above : Bool) → above_ceiling ceiling (suc g) (S.dist (S.makes s m)) ≡ above
          → P (cond (legal && not back) (cond above infinity (first_stored (f g s) stored (f (suc g) (S.makes s m)))) infinity)
      go true e true b above a = out (λ step. absurd (step.onward (eqb-true (last + m) 3 b)))
      go true e false b true a = out (λ step. ltb-true ceiling (suc g + S.dist (S.makes s m)) a)
      go true e false b false a =
          within (record { legal = subst T (sym e) tt; onward = eqb-false (last + m) 3 b })
          (ltb-false ceiling (suc g + S.dist (S.makes s m)) a)
      go false e true b above a = out (λ step. absurd (subst T e step.legal))
      go false e false b above a = out (λ step. absurd (subst T e step.legal))

  -- the same of every entry of the first row: by the law, what is beyond the four moves is no successor
  pub first-each : (I : S.State → Type 0) → Laws S I → (P : ℕ → ℕ → Type 0) (g : ℕ) (s : S.State) (last stored : ℕ)
      → ((m : ℕ) → Steps S last s m → suc g + S.dist (S.makes s m) ≤ ceiling
      → P m (first_stored (f g s) stored (f (suc g) (S.makes s m))))
      → ((m : ℕ) → (Steps S last s m → ceiling < suc g + S.dist (S.makes s m)) → P m infinity)
      → (m : ℕ) → P m (entry (first_row S f ceiling g s last stored) m)
  first-each I laws P g s last stored within out m = go (dec_lt m 4)
    where
      go : Dec (m < 4) → P m (entry (first_row S f ceiling g s last stored) m)
      go (yes h) = rw (first_entry_lem S f ceiling g s last stored m h) (first-value (P m) g s last stored m (within m) (out m))
      go (no h) =
          rw (first_beyond S f ceiling g s last stored m (omega arith))
          (out m (λ step. absurd (omega (arith, laws.is_move s m step.legal))))

-- a value below infinity stands only at a legal move
abbrev pub Legal : (S : Space) → S.State → List ℕ → Type 0
Legal S s r = (m : ℕ) → entry r m < infinity → T (S.may s m)

module _ (S : Space) (s : S.State) where
  pub first-legal : (I : S.State → Type 0) → Laws S I → (f : ℕ → S.State → ℕ) (ceiling g last stored : ℕ)
      → Legal S s (first_row S f ceiling g s last stored)
  first-legal I laws f ceiling g last stored =
      first-each S f ceiling I laws (λ m v. v < infinity → T (S.may s m)) g s last stored
      (λ m step near h. step.legal) (λ m out below. absurd (omega arith))

  -- so the move that is visited is legal
  pub best-legal : (bound : ℕ) (r : List ℕ) → Legal S s r → goes_on bound r ≡ true → T (S.may s (best r).step)
  best-legal bound r legal e = legal (best r).step (best-finite r bound e)

  pub set-legal : (r : List ℕ) (m v : ℕ) → entry r m < infinity → Legal S s r → Legal S s (set r m v)
  set-legal r m v h legal = set-each r m v (λ k x. x < infinity → T (S.may s k)) h (λ below. legal m h) legal
