-- A loop that follows the cycles of a board: it stands at cell i and puts the value there into its own cell by an exchange, or goes on
-- where cell i holds its own number. `Following`, the loop's invariant, with its two turns and its end: at most n - 1 exchanges, and
-- fewer than 2n turns; then the same of the cells that the code holds, with one value in hand. Assumes nothing.
use Prim.Native.Nat.{ℕ, suc, ◌+◌, ◌*◌, ◌-◌, ◌≤◌, ◌<◌}
use mathlib.Core.Path.{◌≡◌, sym, ap, ap₂, subst, ◌∙◌}
use mathlib.Core.Logic.{◌≢◌}
use mathlib.Core.List.{List}
use native.Mathlib.Decide.{dec_lt}
use native.Mathlib.Nat.{add-zero, zero-add}
use native.Mathlib.Omega.{arith}
use lib.ListN.{length, set, take, length-set}
use lib.Seq.{get_or-set_same, get_or-set_other, set-get_or, set-set, set_comm, take-set-lt, get_or-take}
use borrow.Author.Count.{below_more}
use Rattle.board.specs.declared.Shape.{Shape}
use Rattle.board.specs.Shape.{cells, GoodShape}
use Rattle.board.specs.Board.{at, IsBoard}
use Rattle.board.specs.Order.{OrderedBy, already, exchange, FewExchanges}
use Rattle.board.proofs.theory.Sides.{cells-within}
use Rattle.board.proofs.theory.Boards.{same-cell}
use Rattle.board.proofs.theory.Swaps.{swapped, swapped-board, at-swapped-rest}
use Rattle.board.proofs.code.Away.{away_from, away-most, two-away, one_less}

-- the loop at cell i, after `count` exchanges that have made the board b of the board `start`
pub record Following (start b : List ℕ) (n count i : ℕ) : Type 0 where
  -- a shape with so many cells: no more of it matters here
  pub shape : Shape
  pub size : cells shape ≡ n
  pub few : n ≤ 16
  pub long : length start ≡ n
  pub board : IsBoard shape b
  -- what puts b in order puts `start` in order, with the exchanges made
  pub rest : (k : ℕ) → OrderedBy b k → OrderedBy start (count + k)
  -- the cells before i hold their own numbers
  pub within : i < n
  pub passed : (j : ℕ) → j < i → at b j ≡ j
  -- each exchange has put a value into its own cell for good
  pub counted : count + away_from 0 b ≤ n
  pub most : count < n

-- what falls at each turn: the cells ahead but for the last, and those that do not hold their own number
pub turns_left : List ℕ → ℕ → ℕ → ℕ
turns_left b n i = (n - 1 - i) + away_from 0 b

-- so of n cells there are fewer than 2n turns
pub few-turns : (b : List ℕ) (n : ℕ) → length b ≡ n → 0 < n → turns_left b n 0 < 2 * n
unfolding turns_left
few-turns b n long some = omega (arith, away-most 0 b)

goes-on-less : (b : List ℕ) (n i : ℕ) → i + 1 < n → turns_left b n (i + 1) < turns_left b n i
unfolding turns_left
goes-on-less b n i h = omega arith

begins : (s : Shape) (b : List ℕ) (n : ℕ) → GoodShape s → IsBoard s b → cells s ≡ n → Following b b n 0 0
begins s b n good board size = record {
  shape = s;
  size = size;
  few = omega (arith, cells-within good);
  long = board.long ∙ size;
  board = board;
  rest = λ k o. subst (OrderedBy b) (sym (zero-add k)) o;
  within = omega (arith, cells-within good);
  passed = λ j h. absurd (omega arith);
  counted = omega (arith, away-most 0 b, board.long);
  most = omega (arith, cells-within good);
}

module _ (start b : List ℕ) (n count i : ℕ) (following : Following start b n count i) where
  -- every value is a cell's number
  value-inside : (j : ℕ) → j < n → at b j < n
  value-inside j h = omega (arith, following.size, following.board.small j (omega (arith, following.size)))

  same : (j k : ℕ) → j < n → k < n → at b j ≡ at b k → j ≡ k
  same j k h l = same-cell following.shape b following.board j k (omega (arith, following.size)) (omega (arith, following.size))

  listed : (j : ℕ) → j < n → j < length b
  listed j h = omega (arith, following.size, following.board.long)

  -- cell i holds its own number
  goes_on_lem : i + 1 < n → at b i ≡ i → Following start b n count (i + 1)
  goes_on_lem next own = record {
    shape = following.shape;
    size = following.size;
    few = following.few;
    long = following.long;
    board = following.board;
    rest = following.rest;
    within = next;
    passed = below_more (λ (j : ℕ). at b j ≡ j) i following.passed own;
    counted = following.counted;
    most = following.most;
  }

  -- cell i holds v, whose own cell is another: the two are exchanged
  module _ (v : ℕ) (holds : at b i ≡ v) (elsewhere : v ≢ i) where
    inside : i < n
    inside = following.within

    differ : i ≢ v
    differ e = elsewhere (sym e)

    home-inside : v < n
    home-inside = omega (arith, value-inside i inside)

    not_own : at b v ≢ v
    not_own e = differ (same i v inside home-inside (holds ∙ sym e))

    fewer : away_from 0 (swapped b i v) + 1 ≤ away_from 0 b
    fewer =
        rw holds
        (one_less b i v differ (listed i inside) (listed v home-inside) (λ e. elsewhere (sym holds ∙ e)) not_own)

    two : 2 ≤ away_from 0 b
    two = two-away b i v differ (listed i inside) (listed v home-inside) (λ e. elsewhere (sym holds ∙ e)) not_own

    exchanges : Following start (swapped b i v) n (count + 1) i
    exchanges = record {
      shape = following.shape;
      size = following.size;
      few = following.few;
      long = following.long;
      board =
          swapped-board i v differ following.shape b (omega (arith, following.size)) (omega (arith, following.size, home-inside))
          following.board;
      rest = λ k o.
          subst (OrderedBy start) (omega arith)
          (following.rest (suc k) (exchange i v differ (listed i inside) (listed v home-inside) o));
      within = following.within;
      passed = λ j h.
          at-swapped-rest i v differ b (listed i inside) (listed v home-inside) j (omega arith)
          (λ e. not_own (rw e at (following.passed j h)))
          ∙ following.passed j h;
      counted = omega (arith, following.counted, fewer);
      most = omega (arith, following.counted, two);
    }

    exchanges-less : turns_left (swapped b i v) n i < turns_left b n i
    unfolding turns_left
    exchanges-less = omega (arith, fewer)

  -- every cell but the last holds its own number: then the last does
  all_own : n ≤ i + 1 → (j : ℕ) → j < n → at b j ≡ j
  all_own past j h = go (dec_lt (at b j) i) (dec_lt j i)
    where
      go : Dec (at b j < i) → Dec (j < i) → at b j ≡ j
      go (yes l) d = same (at b j) j (value-inside j h) h (following.passed (at b j) l)
      go (no l) (yes u) = following.passed j u
      go (no l) (no u) = omega (arith, value-inside j h)

  pub ends : n ≤ i + 1 → FewExchanges start count
  ends past = record {
    ordered = subst (OrderedBy start) (add-zero count) (following.rest 0 (already (λ j h. all_own past j (inside j h))));
    most = rw following.long following.most;
  }
    where
      inside : (j : ℕ) → j < length b → j < n
      inside j h = omega (arith, following.size, following.board.long)

-- ---- the same of the sixteen cells that the code holds

-- the board at cell i: the first n of the cells l, with the value x in hand for cell i
abbrev pub in_hand : ℕ → List ℕ → ℕ → ℕ → List ℕ
in_hand n l i x = set (take n l) i x

-- cell i's own value in hand
pub taken_in_hand : (n : ℕ) (l : List ℕ) (i : ℕ) → i < n → in_hand n l i (at l i) ≡ take n l
taken_in_hand n l i p = ap (set (take n l) i) (sym (get_or-take n l i 0 p)) ∙ set-get_or (take n l) i 0

pub first-turn :
    (s : Shape) (l : List ℕ) (n : ℕ)
    → GoodShape s
    → IsBoard s (take n l)
    → cells s ≡ n
    → Following (take n l) (in_hand n l 0 (at l 0)) n 0 0
first-turn s l n good board size =
    rw (taken_in_hand n l 0 (omega (arith, cells-within good))) (begins s (take n l) n good board size)

-- the value x is in hand, and v is the number of its own cell
module _
    (start l : List ℕ) (n count i x v : ℕ)
    (following : Following start (in_hand n l i x) n count i)
    (read : v ≡ x) where
  in_list : i < length (take n l)
  in_list = omega (arith, listed start (in_hand n l i x) n count i following i following.within, length-set (take n l) i x)

  holds-x : at (in_hand n l i x) i ≡ x
  holds-x = get_or-set_same (take n l) i x 0 in_list

  pub home_below : v < n
  home_below = omega (arith, holds-x, value-inside start (in_hand n l i x) n count i following i following.within)

  -- it is cell i: x is put there, and the next cell's value is taken in hand
  module _ (next : i + 1 < n) where
    same-board : in_hand n (set l i x) (i + 1) (at (set l i x) (i + 1)) ≡ in_hand n l i x
    same-board = taken_in_hand n (set l i x) (i + 1) next ∙ take-set-lt n l i x following.within

    pub home-turn : v ≡ i → Following start (in_hand n (set l i x) (i + 1) (at (set l i x) (i + 1))) n count (i + 1)
    home-turn own = rw same-board (goes_on_lem start (in_hand n l i x) n count i following next (holds-x ∙ sym read ∙ own))

    pub home-less : turns_left (in_hand n (set l i x) (i + 1) (at (set l i x) (i + 1))) n (i + 1) < turns_left (in_hand n l i x) n i
    home-less = rw same-board (goes-on-less (in_hand n l i x) n i next)

  -- it is another: x is put there, and what stood there is taken in hand
  module _ (elsewhere : v ≢ i) where
    stores : in_hand n (set l v x) i (at l v) ≡ swapped (in_hand n l i x) i v
    stores =
        ap₂ (λ (m : List ℕ) (y : ℕ). set m i y) (take-set-lt n l v x home_below) (sym (get_or-take n l v 0 home_below))
        ∙ set_comm (take n l) v i x (at (take n l) v) elsewhere
        ∙ ap (λ (m : List ℕ). set m v x) (sym (set-set (take n l) i x (at (take n l) v)))
        ∙ ap₂ (λ (y z : ℕ). set (set (in_hand n l i x) i y) v z) (sym (get_or-set_other (take n l) i v x 0 elsewhere)) (sym holds-x)

    pub exchange-turn : Following start (in_hand n (set l v x) i (at l v)) n (count + 1) i
    exchange-turn = rw stores (exchanges start (in_hand n l i x) n count i following v (holds-x ∙ sym read) elsewhere)

    pub exchange-less : turns_left (in_hand n (set l v x) i (at l v)) n i < turns_left (in_hand n l i x) n i
    exchange-less = rw stores (exchanges-less start (in_hand n l i x) n count i following v (holds-x ∙ sym read) elsewhere)
