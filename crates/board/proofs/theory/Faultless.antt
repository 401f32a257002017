-- Tests 1 to 4 mean what they say. Each test by itself: no cell is too large, no cell repeats another. Then the whole: `tested`
-- answers Ok exactly for a good shape and a board of it, and gives that shape; a fault's cell is one of sixteen. Assumes nothing.
use Prim.Native.Nat.{ℕ, ◌*◌, ◌≤◌, ◌<◌}
use mathlib.Core.Path.{◌≡◌, refl, ap, ◌∙◌}
use mathlib.Core.Logic.{◌↔◌}
use mathlib.Core.Bool.{Bool, false, ◌||◌}
use mathlib.Core.List.{List}
use mathlib.Core.Option.{Option, none, some}
use native.Mathlib.Omega.{arith}
use lib.Dec.{leb, eqb}
use lib.ListN.{length, take}
use lib.Seq.{get_or-take, length-take-le}
use borrow.Author.Tests.{ltb-true, ltb-false, leb-false, eqb-true, eqb-false, not-false, lt-leb, le-ltb, eq-eqb, ne_eqb}
use Rattle.board.specs.declared.Shape.{Shape}
use Rattle.board.specs.declared.Fault.{Fault}
use Rattle.std.specs.Prelude.{Ok, Err}
use Rattle.board.specs.First.{first_of}
use Rattle.board.specs.Shape.{cells, GoodShape, bad_side}
use Rattle.board.specs.Board.{at, IsBoard}
use Rattle.board.specs.Tests.{first_refusal, FirstToHold, here, later, NoneHolds, end, past}
use Rattle.board.specs.Faults.{first_too_large, first_holding, repeats, first_repeat, fault_tests, said_of, tested, fault_cell}
use Rattle.board.proofs.theory.TestsInOrder.{first_means, first-given, none_means}
use Rattle.board.proofs.theory.Firsts.{first_of_high, first_of_fails, first_of_none, first_of_cong}
use Rattle.board.proofs.theory.Onto.{Small, Once}
use Rattle.board.proofs.theory.Sides.{neither, side_passes, passing_side, cells-within}

-- ---- test 3

pub none_too_large : (n : ℕ) (b : List ℕ) → (first_too_large n b ≡ n) ↔ Small n (at b)
unfolding first_too_large
none_too_large n b = (
  λ e i h. leb-false n (at b i) (first_of_fails test 0 n i (omega arith) (omega arith)),
  λ small. first_of_none test 0 n (λ i l h. lt-leb n (at b i) (small i (omega arith))) ∙ omega arith,
)
  where
    test : ℕ → Bool
    test i = leb n (at b i)

pub too_large_within : (n : ℕ) (b : List ℕ) → first_too_large n b ≤ n
unfolding first_too_large
too_large_within n b = omega (arith, first_of_high (λ i. leb n (at b i)) 0 n)

-- ---- test 4

-- the cells before cell i, by themselves, hold x first where the board does
pub holding_before : (b : List ℕ) (x i : ℕ) → i ≤ length b → first_holding (take i b) x (length (take i b)) ≡ first_holding b x i
unfolding first_holding
holding_before b x i within =
    rw (length-take-le i b within)
    (first_of_cong (λ j. eqb (at (take i b) j) x) (λ j. eqb (at b j) x) 0 i
    (λ j low high. ap (λ (v : ℕ). eqb v x) (get_or-take i b j 0 (omega arith))))

-- a cell that repeats none before it
repeats-none : (b : List ℕ) (i : ℕ) → (repeats b i ≡ false) ↔ ((j : ℕ) → j < i → at b j ≡ at b i → ⊥)
unfolding repeats first_holding
repeats-none b i = (
  λ e j h. eqb-false (at b j) (at b i) (first_of_fails test 0 i j (omega arith) (omega (arith, ltb-false first i e))),
  λ none. le-ltb first i (omega (arith, first_of_none test 0 i (λ j l h. ne_eqb (at b j) (at b i) (none j (omega arith))))),
)
  where
    test : ℕ → Bool
    test j = eqb (at b j) (at b i)

    first : ℕ
    first = first_of test 0 i

pub none-repeats : (n : ℕ) (b : List ℕ) → (first_repeat n b ≡ n) ↔ Once n (at b)
unfolding first_repeat
none-repeats n b = (
  λ e i j l h. (repeats-none b j).0 (first_of_fails (repeats b) 0 n j (omega arith) (omega arith)) i l,
  λ once. first_of_none (repeats b) 0 n (λ j l h. (repeats-none b j).1 (λ i u. once i j u (omega arith))) ∙ omega arith,
)

pub repeat_within : (n : ℕ) (b : List ℕ) → first_repeat n b ≤ n
unfolding first_repeat
repeat_within n b = omega (arith, first_of_high (repeats b) 0 n)

-- ---- the four tests, one after the other

-- the shape that is tested
abbrev given : ℕ → ℕ → Shape
given w h = record { width = w; height = h }

said-sound : (s : Shape) (o : Option Fault) (s' : Shape) → said_of s o ≡ Ok s' → (o ≡ none) × (s' ≡ s)
unfolding said_of
said-sound s none s' e = (refl, cc)
said-sound s (some f) s' e = let z : ◌≡◌ {A = ℕ} 0 1 = cc in absurd (omega arith)

said-faulty : (s : Shape) (o : Option Fault) (f : Fault) → said_of s o ≡ Err f → o ≡ some f
unfolding said_of
said-faulty s none f e = let z : ◌≡◌ {A = ℕ} 0 1 = cc in absurd (omega arith)
said-faulty s (some g) f e = cc

-- `tested` names a fault exactly where that is the first of the four to hold
pub faulty_means : (w h : ℕ) (b : List ℕ) (f : Fault) → tested w h b ≡ Err f → FirstToHold (fault_tests w h b) f
unfolding tested
faulty_means w h b f e = first_means (fault_tests w h b) f (said-faulty (given w h) (first_refusal (fault_tests w h b)) f e)

pub faulty-given : (w h : ℕ) (b : List ℕ) (f : Fault) → FirstToHold (fault_tests w h b) f → tested w h b ≡ Err f
unfolding tested said_of
faulty-given w h b f first = rw (first-given first)

-- it is Ok where none of the four holds
pub none-faulty : (w h : ℕ) (b : List ℕ) (s : Shape) → tested w h b ≡ Ok s → NoneHolds (fault_tests w h b)
unfolding tested
none-faulty w h b s e = none_means (fault_tests w h b) (said-sound (given w h) (first_refusal (fault_tests w h b)) s e).0

pub board-of : (w h : ℕ) (b : List ℕ) → NoneHolds (fault_tests w h b) → GoodShape (given w h) × IsBoard (given w h) b
unfolding fault_tests
board-of w h b (past one (past two (past three (past four end)))) =
    let n = w * h in
    let sides = neither (bad_side w) (bad_side h) one in (
      record { wide = passing_side w sides.0; high = passing_side h sides.1 },
      record {
        long = eqb-true (length b) n (not-false (eqb (length b) n) two);
        small = (none_too_large n b).0 (omega (arith, ltb-false (first_too_large n b) n three, too_large_within n b));
        once = (none-repeats n b).0 (omega (arith, ltb-false (first_repeat n b) n four, repeat_within n b));
      },
    )

pub sound_means : (w h : ℕ) (b : List ℕ) (s : Shape) → tested w h b ≡ Ok s → (s ≡ given w h) × GoodShape s × IsBoard s b
unfolding tested
sound_means w h b s e =
    let same = (said-sound (given w h) (first_refusal (fault_tests w h b)) s e).1 in
    let good = board-of w h b (none-faulty w h b s e) in
    (same, rw same good.0, rw same good.1)

pub faultless-sound : (s : Shape) (b : List ℕ) → GoodShape s → IsBoard s b → tested s.width s.height b ≡ Ok s
unfolding tested fault_tests said_of first_refusal
faultless-sound s b shape board =
    rw (side_passes shape.wide, side_passes shape.high, eq-eqb (length b) (cells s) board.long)
    (rw ((none_too_large (cells s) b).1 board.small, (none-repeats (cells s) b).1 board.once)
    (rw (le-ltb (cells s) (cells s) (omega arith))))

-- ---- where a fault's cell lies

few-cells : (w h : ℕ) → bad_side w || bad_side h ≡ false → w * h ≤ 16
few-cells w h sides =
    let each = neither (bad_side w) (bad_side h) sides in
    let good : GoodShape (given w h) = record { wide = passing_side w each.0; high = passing_side h each.1 } in
    (cells-within good).most

first-inside : (w h : ℕ) (b : List ℕ) (f : Fault) → FirstToHold (fault_tests w h b) f → fault_cell f ≤ 15
unfolding fault_tests
first-inside w h b f (here one) = omega arith
first-inside w h b f (later one (here two)) = omega arith
first-inside w h b f (later one (later two (here three))) =
    omega (arith, ltb-true (first_too_large (w * h) b) (w * h) three, few-cells w h one)
first-inside w h b f (later one (later two (later three (here four)))) =
    omega (arith, ltb-true (first_repeat (w * h) b) (w * h) four, few-cells w h one)
first-inside w h b f (later one (later two (later three (later _ x)))) = elim x [ ]

pub fault-cell-inside : (w h : ℕ) (b : List ℕ) (f : Fault) → tested w h b ≡ Err f → fault_cell f ≤ 15
fault-cell-inside w h b f e = first-inside w h b f (faulty_means w h b f e)
