-- The way by a move after another: where the move stays on the grid and takes nothing back it is the cell that the move leads to, which is
-- another cell; else it is the cell itself. So a way that leads elsewhere is a successor's, and one that does not is none. Assumes nothing.
use Prim.Native.Nat.{ℕ, ◌+◌, ◌<◌}
use mathlib.Core.Path.{◌≡◌, refl, sym, ◌∙◌, subst}
use mathlib.Core.Bool.{Bool, true, false, cond, not, ◌&&◌}
use lib.Dec.{T, eqb}
use Rattle.board.specs.declared.Shape.{Shape}
use Rattle.board.specs.Shape.{cells, GoodShape}
use Rattle.board.specs.Moves.{stays_on, leads_to}
use Rattle.board.specs.Distance.{way}
use Rattle.board.proofs.theory.Sides.{cells-within}
use Rattle.board.proofs.theory.Steps.{leads_by_step, leads_inside, step_elsewhere}

passes : {t : Bool} → t ≡ true → T t
passes e = subst T (sym e) tt

module _ (s : Shape) (e last m : ℕ) where
  pub way_on : stays_on s e m ≡ true → eqb (last + m) 3 ≡ false → way s e last m ≡ leads_to s e m
  unfolding way
  way_on stays on = rw (stays, on)

  pub way_off : stays_on s e m ≡ false → way s e last m ≡ e
  unfolding way
  way_off off = rw off

  pub way_back : eqb (last + m) 3 ≡ true → way s e last m ≡ e
  unfolding way
  way_back back = rw back (go (stays_on s e m))
    where
      go : (t : Bool) → cond (t && false) (leads_to s e m) e ≡ e
      go true = refl
      go false = refl

  -- a way that leads elsewhere
  pub record Leads (t : ℕ) : Type 0 where
    pub stays : stays_on s e m ≡ true
    pub on : eqb (last + m) 3 ≡ false
    pub to : t ≡ leads_to s e m

  pub way_leads : (t : ℕ) → t ≡ way s e last m → (t ≡ e → ⊥) → Leads t
  way_leads t is elsewhere = go (stays_on s e m) refl (eqb (last + m) 3) refl
    where
      go : (a : Bool) → stays_on s e m ≡ a → (c : Bool) → eqb (last + m) 3 ≡ c → Leads t
      go true p false q = record { stays = p; on = q; to = is ∙ way_on p q }
      go true p true q = absurd (elsewhere (is ∙ way_back q))
      go false p c q = absurd (elsewhere (is ∙ way_off p))

  module _ (good : GoodShape s) where
    -- a way that does not
    pub way-none : (t : ℕ) → t ≡ way s e last m → t ≡ e → stays_on s e m && not (eqb (last + m) 3) ≡ false
    way-none t is same = go (stays_on s e m) refl (eqb (last + m) 3) refl
      where
        go : (a : Bool) → stays_on s e m ≡ a → (c : Bool) → eqb (last + m) 3 ≡ c → stays_on s e m && not (eqb (last + m) 3) ≡ false
        go true p false q =
            absurd (step_elsewhere (leads_by_step s good e m (passes p)) (sym (way_on p q) ∙ sym is ∙ same))
        go true p true q = rw (p, q)
        go false p c q = rw p

    pub way-inside : e < cells s → way s e last m < cells s
    way-inside below = go (stays_on s e m) refl (eqb (last + m) 3) refl
      where
        go : (a : Bool) → stays_on s e m ≡ a → (c : Bool) → eqb (last + m) 3 ≡ c → way s e last m < cells s
        go true p false q = subst (λ (k : ℕ). k < cells s) (sym (way_on p q)) (leads_inside s good e m below (passes p))
        go true p true q = subst (λ (k : ℕ). k < cells s) (sym (way_back q)) below
        go false p c q = subst (λ (k : ℕ). k < cells s) (sym (way_off p)) below

-- what bounds a way, and its place in a shape's own table
pub ruleset places = (cells-within, way-inside)
