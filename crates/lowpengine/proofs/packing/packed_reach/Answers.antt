-- `lowpengine::packing::packed_reach` meets its contract: a fault's cell is told whole, and 9 has none. Assumes nothing.
use Prim.Native.Nat.{ℕ, ◌+◌, ◌*◌, min}
use mathlib.Core.Path.{◌≡◌, refl, sym, ap, ◌∙◌}
use mathlib.Core.Bool.{Bool, true, false, cond}
use mathlib.Core.List.{List}
use native.Mathlib.Omega.{arith}
use Rattle.std.specs.Prelude.{Result, Ok, Err}
use Rattle.board.specs.declared.Shape.{Shape}
use Rattle.board.specs.declared.Fault.{Fault}
use Rattle.board.specs.Faults.{tested}
use Rattle.board.specs.Parity.{is_odd}
use Rattle.board.proofs.Laws.{fault-cell-inside}
use Rattle.planner.specs.declared.Refusal.{Refusal}
use Rattle.planner.specs.declared.Refusal.TheVariants.{OddBoard}
use Rattle.planner.specs.Answer.{refusal_number, refusal_cell}
use Rattle.lowpengine.specs.Packed.{farthest, reach_after, reached_after, packed_reach, reached}
use Rattle.lowpengine.proofs.packing.packed_reach.Goals as goal

-- what is told of an answer
abbrev told : Result Unit Refusal → ℕ
told (Ok x) = 0
told (Err why) = refusal_number why + 256 * min (refusal_cell why) farthest

by-parity : (odd : Bool) → told (cond odd (Err OddBoard) (Ok tt)) ≡ cond odd 9 0
by-parity true = refl
by-parity false = refl

whole : (w h : ℕ) (b : List ℕ) (t : Result Shape Fault) → tested w h b ≡ t → told (reached_after t b) ≡ reach_after t b
unfolding reach_after
whole w h b (Err f) e = omega (arith, fault-cell-inside w h b f e)
whole w h b (Ok s) e = by-parity (is_odd s b)

ends : (w h : ℕ) (b : List ℕ) (r o : Result Unit Refusal) → r ≡ reached w h b → r ≡ o → told o ≡ packed_reach w h b
ends w h b r o is e = ap told (sym e ∙ is) ∙ whole w h b (tested w h b) refl

-- the result is the number that was made, and no other
as_made : {made result wanted : ℕ} → made ≡ wanted → result ≡ made → result ≡ wanted
as_made e is = is ∙ e

pub returns-in-Ok : goal.returns-in-Ok
returns-in-Ok c = ends _ _ _ _ _ c.reached.ensures c.in-Ok.is

pub returns-in-Err : goal.returns-in-Err
returns-in-Err c = as_made (c.with_detail.ensures ∙ ends _ _ _ _ _ c.reached.ensures c.in-Err.is) (omega arith)
