-- Two cells of a list exchange their values. What then stands in each cell, by the cells' own exchange `turned`; that a second
-- exchange gives the list back; and that a board stays a board. Assumes nothing.
use Prim.Native.Nat.{ℕ, ◌<◌}
use mathlib.Core.Path.{◌≡◌, refl, sym, ◌∙◌, ap}
use mathlib.Core.Logic.{◌≢◌}
use mathlib.Core.Bool.{cond}
use mathlib.Core.List.{List}
use native.Mathlib.Decide.{ℕ_discrete}
use native.Mathlib.Omega.{arith}
use lib.Dec.{eqb}
use lib.ListN.{length, set, length-set}
use lib.Seq.{lt-length-set, get_or-set_same, get_or-set_other, set-set, set_comm, set-get_or}
use borrow.Author.Tests.{eq-eqb, ne_eqb}
use Rattle.board.specs.declared.Shape.{Shape}
use Rattle.board.specs.Shape.{cells}
use Rattle.board.specs.Board.{at, IsBoard}
use Rattle.board.proofs.theory.Boards.{same-cell}

-- the list with the values of cells i and j exchanged
abbrev pub swapped : List ℕ → ℕ → ℕ → List ℕ
swapped b i j = set (set b i (at b j)) j (at b i)

-- cell k, where cells i and j change places
pub turned : ℕ → ℕ → ℕ → ℕ
turned i j k = cond (eqb k j) i (cond (eqb k i) j k)

module _ (i j : ℕ) (differ : i ≢ j) where
  -- a claim about every cell: of the one, of the other, and of the rest
  each : (P : ℕ → Type 0) → P i → P j → ((k : ℕ) → k ≢ i → k ≢ j → P k) → (k : ℕ) → P k
  each P at_i at_j at_rest k = go (ℕ_discrete k i) (ℕ_discrete k j)
    where
      go : Dec (k ≡ i) → Dec (k ≡ j) → P k
      go (yes e) d = rw e at_i
      go (no n) (yes e) = rw e at_j
      go (no n) (no m) = at_rest k n m

  pub turned-first : turned i j i ≡ j
  unfolding turned
  turned-first = rw (ne_eqb i j differ, eq-eqb i i refl)

  pub turned-second : turned i j j ≡ i
  unfolding turned
  turned-second = rw (eq-eqb j j refl)

  pub turned-rest : (k : ℕ) → k ≢ i → k ≢ j → turned i j k ≡ k
  unfolding turned
  turned-rest k d e = rw (ne_eqb k j e, ne_eqb k i d)

  pub turned_twice : (k : ℕ) → turned i j (turned i j k) ≡ k
  turned_twice =
      each (λ k. turned i j (turned i j k) ≡ k) (rw (turned-first, turned-second)) (rw (turned-second, turned-first))
      (λ k d e. simp (turned-rest k d e))

  pub turned-inside : (n : ℕ) → i < n → j < n → (k : ℕ) → k < n → turned i j k < n
  turned-inside n p q =
      each (λ k. k < n → turned i j k < n) (λ h. rw turned-first q) (λ h. rw turned-second p)
      (λ k d e h. rw (turned-rest k d e) h)

  -- ---- what stands in each cell

  pub length-swapped : (b : List ℕ) → length (swapped b i j) ≡ length b
  length-swapped b = simp length-set

  module _ (b : List ℕ) (p : i < length b) (q : j < length b) where
    pub at-swapped-first : at (swapped b i j) i ≡ at b j
    at-swapped-first = get_or-set_other (set b i (at b j)) j i (at b i) 0 differ ∙ get_or-set_same b i (at b j) 0 p

    pub at-swapped-second : at (swapped b i j) j ≡ at b i
    at-swapped-second = get_or-set_same (set b i (at b j)) j (at b i) 0 (lt-length-set b i (at b j) q)

    pub at-swapped-rest : (k : ℕ) → k ≢ i → k ≢ j → at (swapped b i j) k ≡ at b k
    at-swapped-rest k d e = get_or-set_other (set b i (at b j)) j k (at b i) 0 e ∙ get_or-set_other b i k (at b j) 0 d

    pub at-swapped : (k : ℕ) → at (swapped b i j) k ≡ at b (turned i j k)
    at-swapped =
        each (λ k. at (swapped b i j) k ≡ at b (turned i j k)) (rw turned-first at-swapped-first)
        (rw turned-second at-swapped-second)
        (λ k d e. rw (turned-rest k d e) (at-swapped-rest k d e))

    pub swapped-back : swapped (swapped b i j) j i ≡ b
    swapped-back =
        rw (at-swapped-first, at-swapped-second)
        (rw (set-set (set b i (at b j)) j (at b i) (at b j), set_comm b i j (at b j) (at b j) differ)
        (rw (set-get_or b j 0, set-set b i (at b j) (at b i)) (set-get_or b i 0)))

  pub swapped-board : (s : Shape) (b : List ℕ) → i < cells s → j < cells s → IsBoard s b → IsBoard s (swapped b i j)
  swapped-board s b p q board =
      record {
        long = length-swapped b ∙ board.long;
        small = λ k h. rw (holds k) (board.small (turned i j k) (inside k h));
        once = λ k l u h e. omega (arith, same k l (omega arith) h e);
      }
    where
      holds : (k : ℕ) → at (swapped b i j) k ≡ at b (turned i j k)
      holds = at-swapped b (rw board.long p) (rw board.long q)

      inside : (k : ℕ) → k < cells s → turned i j k < cells s
      inside = turned-inside (cells s) p q

      same : (k l : ℕ) → k < cells s → l < cells s → at (swapped b i j) k ≡ at (swapped b i j) l → k ≡ l
      same k l x y e =
          let cells_same = sym (holds k) ∙ e ∙ holds l in
          sym (turned_twice k)
          ∙ ap (turned i j) (same-cell s b board (turned i j k) (turned i j l) (inside k x) (inside l y) cells_same)
          ∙ turned_twice l
