-- A legal move of a held board: the slide that it makes of the number holds the board after the move, and the two entries of the shape's
-- table for the tray that slides tell the change of distance. Rests on Moving, Digits and Changes. Assumes nothing.
use Prim.Native.Nat.{ℕ, ◌+◌, ◌*◌, ◌^◌, ◌<◌}
use mathlib.Core.Path.{◌≡◌, subst, sym, ap, ap₂, ◌∙◌}
use mathlib.Core.Bool.{Bool, true}
use mathlib.Core.Logic.{◌≢◌}
use mathlib.Core.List.{List}
use native.Mathlib.Decide.{ℕ_discrete}
use native.Mathlib.Omega.{arith}
use lib.Dec.{T}
use lib.IntN.{ℤ, pos, ◌+ℤ◌}
use lib.ListN.{length, set, get_or, length-set}
use lib.Seq.{get_or-set_same, get_or-set_other, lt-length-set}
use Rattle.board.specs.declared.Shape.{Shape}
use Rattle.board.specs.declared.Position.{Position}
use Rattle.board.specs.Shape.{cells, GoodShape}
use Rattle.board.specs.Board.{at, IsBoard, empty_cell}
use Rattle.board.specs.Moves.{stays_on, leads_to, legal, slide, after}
use Rattle.board.specs.Distance.{tray_distance, distance, NearTable}
use Rattle.board.specs.Digits.{digits, digit}
use Rattle.board.specs.Held.{held, Holds, Taken, Slides, Slid}
use Rattle.board.specs.Change.{OneStep, change_of, change, change_to, MovedBy}
use Rattle.board.proofs.theory.Sides.{cells-within}
use Rattle.board.proofs.theory.Boards.{empty-holds_0}
use Rattle.board.proofs.theory.Moving.{target, target-inside, target-elsewhere, after-board, after-empty}
use Rattle.board.proofs.theory.Digits.{word, packed, Small, packed-below, packed-word, packed-set, length_digits, at-digits}
use Rattle.board.proofs.theory.Digits.{digits-packed, packed-digits}
use Rattle.board.proofs.theory.Changes.{looked_up, change_by_cell, move-change, move-one_step}
use Rattle.board.proofs.code.Holding.{empty-below}

pub passes : {t : Bool} → t ≡ true → T t
passes e = subst T (sym e) tt

-- ---- a slide of a list of digits: a tray is taken out at one place and put in at another

pub board-small : (s : Shape) (b : List ℕ) → GoodShape s → IsBoard s b → Small b
board-small s b good board i h = omega (arith, cells-within good, board.long, board.small i (omega (arith, board.long)))

slide-packed : (l : List ℕ) (e t : ℕ) → e < length l → t < length l → t ≢ e → at l e ≡ 0
    → packed (slide l e t) + at l t * 16 ^ t ≡ packed l + at l t * 16 ^ e
unfolding slide
slide-packed l e t inside-e inside-t d hole =
    let first = packed-set l e (at l t) inside-e in
    let second = packed-set (set l e (at l t)) t 0 (lt-length-set l e (at l t) inside-t) in
    let out = ap (λ (v : ℕ). v * 16 ^ t) (get_or-set_other l e t (at l t) 0 d) in
    let none = ap (λ (v : ℕ). v * 16 ^ e) hole in
    omega arith

-- a digit stored among digits
set-small : (l : List ℕ) (i v : ℕ) → Small l → v < 16 → i < length l → Small (set l i v)
set-small l i v small below inside j h =
    let within : j < length l = omega (arith, length-set l i v) in
    elim (ℕ_discrete j i) [
      | yes e ↦ omega (arith, ap (at (set l i v)) e, get_or-set_same l i v 0 inside)
      | no d ↦ omega (arith, get_or-set_other l i j v 0 d, small j within)
    ]

module _ (s : Shape) (p : Position) (holds : Holds s p) where
  hole-below : p.empty < cells s
  hole-below = empty-below s p holds

  pub stays : (m : ℕ) → legal s (held s p) m ≡ true → stays_on s p.empty m ≡ true
  unfolding legal
  stays m allowed = ap (λ (e : ℕ). stays_on s e m) holds.empty ∙ allowed

  -- ---- the tray x that stands in cell t, and the table's two entries for it

  module _ (t x : ℕ) (below : t < cells s) (stands : x ≡ digit p.cells t) where
    in_board : x ≡ at (held s p) t
    in_board = stands ∙ sym (at-digits (cells s) p.cells t below)

    tray-below : x < cells s
    tray-below = omega (arith, in_board, holds.board.small t below)

    pub entries_tell : (near : List ℕ) → NearTable s near
        → change_of (get_or near (64 * p.empty + x) 0) (get_or near (64 * t + x) 0) ≡ change_to s (held s p) t
    entries_tell near table =
        ap₂ change_of (looked_up s near p.empty x holds.shape table hole-below tray-below)
        (looked_up s near t x holds.shape table below tray-below)
        ∙ ap (λ (v : ℕ). change_of (tray_distance s p.empty v) (tray_distance s t v)) in_board
        ∙ ap (λ (e : ℕ). change_of (tray_distance s e (at (held s p) t)) (tray_distance s t (at (held s p) t))) holds.empty

  module _ (m t : ℕ) (allowed : legal s (held s p) m ≡ true) (is : t ≡ leads_to s p.empty m) where
    target_is : t ≡ target s (held s p) m
    target_is = is ∙ ap (λ (e : ℕ). leads_to s e m) holds.empty

    pub change-is : change_to s (held s p) t ≡ change s (held s p) m
    change-is = change_by_cell s (held s p) m t target_is

    pub target_below : t < cells s
    target_below =
        subst (λ (k : ℕ). k < cells s) (sym target_is) (target-inside s (held s p) m holds.shape holds.board (passes allowed))

    -- ---- the board's cells are the number's digits

    abbrev board : List ℕ
    board = held s p

    long : length board ≡ cells s
    long = length_digits (cells s) p.cells

    small : Small board
    small = board-small s board holds.shape holds.board

    whole : packed board ≡ p.cells
    whole = packed-digits (cells s) p.cells holds.rest

    read : (i : ℕ) → i < cells s → at board i ≡ digit p.cells i
    read i below = at-digits (cells s) p.cells i below

    hole : at board p.empty ≡ 0
    hole = ap (at board) holds.empty ∙ empty-holds_0 s board holds.shape holds.board

    elsewhere : t ≢ p.empty
    elsewhere e =
        target-elsewhere s board m holds.shape holds.board (passes allowed) (sym target_is ∙ e ∙ holds.empty)

    placed : (i : ℕ) → at board t * 16 ^ i ≡ digit p.cells t * 16 ^ i
    placed i = ap (λ (v : ℕ). v * 16 ^ i) (read t target_below)

    pub may-slide : Slides p t
    may-slide =
        let few = cells-within holds.shape in
        let inside = hole-below in
        record {
          target = omega (arith, target_below);
          empty = omega arith;
          room =
              subst (λ (x : ℕ). x < word) both
              (packed-word (set board p.empty (at board t)) stored (omega (arith, length-set board p.empty (at board t), long)));
        }
      where
        stored : Small (set board p.empty (at board t))
        stored =
            set-small board p.empty (at board t) small (small t (omega (arith, target_below, long))) (omega (arith, hole-below, long))

        both : packed (set board p.empty (at board t)) ≡ p.cells + digit p.cells t * 16 ^ p.empty
        both =
            let none = ap (λ (v : ℕ). v * 16 ^ p.empty) hole in
            omega (arith, packed-set board p.empty (at board t) (omega (arith, hole-below, long)), whole, placed p.empty)

    -- ---- the slide holds the board after the move

    module _ (q : Position) (made : Slid p t q) where
      after_is : after s board m ≡ slide board p.empty t
      unfolding after
      after_is = ap₂ (slide board) (sym holds.empty) (sym target_is)

      is-board : IsBoard s (after s board m)
      is-board = after-board s board m holds.shape holds.board (passes allowed)

      packs : packed (after s board m) ≡ q.cells
      packs =
          let inside = hole-below in
          omega (
            arith,
            ap packed after_is,
            slide-packed board p.empty t (omega (arith, long)) (omega (arith, target_below, long)) elsewhere hole,
            whole,
            placed t,
            placed p.empty,
            made.cells,
          )

      same : held s q ≡ after s board m
      same =
          ap₂ digits (sym is-board.long) (sym packs)
          ∙ digits-packed (after s board m) (board-small s (after s board m) holds.shape is-board)

      pub slid_taken : Taken s (after s board m) q
      slid_taken =
          record {
            same = same;
            holds =
                record {
                  shape = holds.shape;
                  board = subst (IsBoard s) (sym same) is-board;
                  empty =
                      made.empty
                      ∙ target_is
                      ∙ sym (after-empty s board m holds.shape holds.board (passes allowed))
                      ∙ ap empty_cell (sym same);
                  rest =
                      subst (λ (x : ℕ). x < 16 ^ cells s) packs
                      (subst (λ (n : ℕ). packed (after s board m) < 16 ^ n) is-board.long
                      (packed-below (after s board m) (board-small s (after s board m) holds.shape is-board)));
                };
          }

    -- ---- the move's answer: the slide, and the change

    pub moved_by : (q : Position) (z : ℤ) → Slid p t q → z ≡ change s board m → MovedBy s board m (record { position = q; change = z })
    moved_by q z made tells =
        record {
          position = slid_taken q made;
          sum =
              move-change s board m holds.shape holds.board (passes allowed)
              ∙ ap (λ (y : ℤ). pos (distance s board) +ℤ y) (sym tells);
          one_step = subst OneStep (sym tells) (move-one_step s board m holds.shape holds.board (passes allowed));
        }
