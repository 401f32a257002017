-- `board::moves::slid` meets its contract: the tray's digit is taken out at one place and put in at the other. Assumes nothing.
use Prim.Native.Nat.{ℕ, ◌+◌, ◌-◌, ◌*◌, ◌/◌, ◌%◌, ◌^◌, ◌≤◌, ◌<◌}
use mathlib.Core.Path.{◌≡◌, refl, ap, ◌∙◌}
use native.Mathlib.Omega.{arith}
use Rattle.board.specs.declared.Position.{Position}
use Rattle.board.specs.Digits.{digit}
use Rattle.board.specs.Held.{Slides}
use Rattle.board.proofs.theory.Digits.{word, digit_part, shifted_right, shifted_left}
use Rattle.board.proofs.moves.slid.Goals as goal

module _ (p : Position) (t : ℕ) (may : Slides p t) where
  -- what the code computes: the tray, shifted to cell i
  abbrev shifted : ℕ → ℕ
  shifted i = (p.cells / 2 ^ (4 * t) % 16 * 2 ^ (4 * i)) % word

  shifted-is : (i : ℕ) → i < 16 → shifted i ≡ digit p.cells t * 16 ^ i
  shifted-is i inside =
      ap (λ (v : ℕ). (v * 2 ^ (4 * i)) % word) (shifted_right p.cells t) ∙ shifted_left (digit p.cells t) i (omega arith) inside

  part : shifted t ≤ p.cells
  part = omega (arith, shifted-is t may.target, digit_part p.cells t)

  fits : p.cells - shifted t + shifted p.empty < word
  fits = omega (arith, shifted-is p.empty may.empty, may.room)

  moved : p.cells - shifted t + shifted p.empty + digit p.cells t * 16 ^ t ≡ p.cells + digit p.cells t * 16 ^ p.empty
  moved = omega (arith, part, shifted-is t may.target, shifted-is p.empty may.empty)

pub overflow_add-cells : goal.overflow_add-cells
overflow_add-cells c =
    record { fits = fits c.args.p c.args.t c.requires }

pub returns : goal.returns
returns c =
    record { cells = moved c.args.p c.args.t c.requires; empty = refl }
