-- The code's `visit` against the definition, by the way that it ends: no visit is left, the goal, the ceiling, or the work on the
-- first row. First the definition by these cases, then what the code is to show in each. Rests on `Outcomes.antt`,
-- `TableRows.antt`, `Successors.antt` and the board's laws. Assumes nothing.
use Prim.Native.Nat.{ℕ, zero, suc, ◌+◌, ◌*◌, ◌-◌, ◌≤◌, ◌<◌}
use mathlib.Core.Path.{◌≡◌, refl, ap, sym, ◌∙◌, subst}
use mathlib.Core.Bool.{true, false}
use mathlib.Core.List.{List, []}
use native.Mathlib.Omega.{arith}
use lib.ListN.{length, take}
use Rattle.board.specs.Shape.{GoodShape}
use Rattle.board.specs.Board.{IsBoard, is_goal}
use Rattle.search.specs.declared.Job.{Job}
use Rattle.search.specs.declared.Out.{Out}
use Rattle.search.specs.declared.Out.TheVariants.{Found, Value, Spent}
use Rattle.search.specs.Row.{infinity}
use Rattle.search.specs.Space.{Space, boards}
use Rattle.search.specs.Search.{found, value, spent, static, first_row, unless_goal, visit, work}
use Rattle.search.specs.Run.{row_at, put_row, Open, visited, worked, Ran}
use Rattle.search.proofs.theory.Rows.{first-length}
use Rattle.search.proofs.theory.Successors.{first-legal}
use Rattle.search.proofs.code.BoardSpace.{board-laws}
use Rattle.search.proofs.code.TableRows.{row_put, below_put}
use Rattle.search.proofs.code.Outcomes.{ran_for, ran-value, ran-found-here, ran-spent}

-- ---- the definition

module _ (S : Space) (f : ℕ → S.State → ℕ) (ceiling g : ℕ) (s : S.State) (last stored bound : ℕ) where
  visit-none : (deeper left : ℕ) → left ≡ 0 → visit S f ceiling deeper g s last stored bound left ≡ spent
  unfolding visit
  visit-none zero zero e = refl
  visit-none (suc deeper) zero e = refl
  visit-none deeper (suc left) e = absurd (omega arith)

  visit-goal : (deeper left : ℕ) → (left ≡ 0 → ⊥) → S.at_goal s ≡ true
      → visit S f ceiling deeper g s last stored bound left ≡ found [] (left - 1)
  unfolding visit unless_goal
  visit-goal deeper zero some e = absurd (some refl)
  visit-goal zero (suc left) some e = rw e (ap (found []) (omega arith))
  visit-goal (suc deeper) (suc left) some e = rw e (ap (found []) (omega arith))

  visit-ceiling : (deeper left : ℕ) → (left ≡ 0 → ⊥) → S.at_goal s ≡ false → deeper ≡ 0
      → visit S f ceiling deeper g s last stored bound left ≡ value infinity (left - 1)
  unfolding visit unless_goal
  visit-ceiling deeper zero some e end = absurd (some refl)
  visit-ceiling zero (suc left) some e end = rw e (ap (value infinity) (omega arith))
  visit-ceiling (suc deeper) (suc left) some e end = absurd (omega arith)

  visit-works : (deeper next left : ℕ) → (left ≡ 0 → ⊥) → S.at_goal s ≡ false → deeper ≡ suc next
      → visit S f ceiling deeper g s last stored bound left
      ≡ work (λ m stored' bound' left'. visit S f ceiling next (suc g) (S.makes s m) m stored' bound' left')
      (suc (left - 1)) bound (first_row S f ceiling g s last stored) (left - 1)
  unfolding visit unless_goal
  visit-works deeper next zero some e more = absurd (some refl)
  visit-works deeper next (suc left) some e more =
      let one_less : left ≡ suc left - 1 = omega arith in
      rw (more, e)
      (ap
      (λ (k : ℕ). work (λ m stored' bound' left'. visit S f ceiling next (suc g) (S.makes s m) m stored' bound' left') (suc k) bound
      (first_row S f ceiling g s last stored) k) one_less)

-- ---- the first row, put into the table

abbrev pub starting_row : Job → List ℕ → ℕ → ℕ → ℕ → List ℕ
starting_row job b last g stored = first_row (boards job.shape) (static (boards job.shape) job.weight) job.ceiling g b last stored

module _ (job : Job) (b : List ℕ) (last g stored : ℕ) (table put : List ℕ) (fits : 4 * (g + 1) ≤ length table)
    (e : put ≡ put_row table g (starting_row job b last g stored)) where
  row-put-is : row_at put g ≡ starting_row job b last g stored
  row-put-is =
      ap (λ (l : List ℕ). row_at l g) e
      ∙ row_put table g (starting_row job b last g stored) (first-length (boards job.shape) _ job.ceiling g b last stored)
      (omega arith)

  rows-below : take (4 * g) put ≡ take (4 * g) table
  rows-below = ap (take (4 * g)) e ∙ below_put table g (starting_row job b last g stored) (omega arith)

  pub starts_open : GoodShape job.shape → Open job b (row_at put g)
  starts_open shape =
      subst (Open job b) (sym row-put-is)
      (first-legal (boards job.shape) b (IsBoard job.shape) (board-laws job.shape shape) _ job.ceiling g last stored)

-- ---- the code

module _ (job : Job) (b : List ℕ) (last g stored bound left : ℕ) (table moves : List ℕ) where
  -- no visit is left
  pub none_left : left ≡ 0 → Ran g (visited job b last g stored bound left) table moves Spent table moves
  none_left e = ran_for (sym (visit-none _ _ job.ceiling g b last stored bound (job.ceiling - g) left e)) refl (ran-spent g table moves)

  -- a visit is counted: `rest` are left
  module _ (some : left ≡ 0 → ⊥) (rest : ℕ) (counted : rest ≡ left - 1) where
    pub at-goal : is_goal job.shape b ≡ true → Ran g (visited job b last g stored bound left) table moves (Found g rest) table moves
    at-goal e =
        ran_for
        (ap (found []) counted ∙ sym (visit-goal (boards job.shape) _ job.ceiling g b last stored bound (job.ceiling - g) left some e))
        refl
        (ran-found-here g table moves rest)

    module _ (away : is_goal job.shape b ≡ false) where
      pub at-ceiling : g ≡ job.ceiling → Ran g (visited job b last g stored bound left) table moves (Value infinity rest) table moves
      at-ceiling e =
          ran_for
          (ap (value infinity) counted
          ∙ sym (visit-ceiling (boards job.shape) _ job.ceiling g b last stored bound (job.ceiling - g) left some away (omega arith)))
          refl
          (ran-value g table moves infinity rest)

      -- the work on the row that was put into the table
      pub works : g < job.ceiling → 4 * (g + 1) ≤ length table → (put : List ℕ) → put ≡ put_row table g (starting_row job b last g stored)
          → {r : Out} {table' moves' : List ℕ}
          → Ran g (worked job b g bound (row_at put g) rest) put moves r table' moves'
          → Ran g (visited job b last g stored bound left) table moves r table' moves'
      works further fits put e =
          ran_for
          (ap (λ (l : List ℕ). worked job b g bound l rest) (row-put-is job b last g stored table put fits e)
          ∙ ap (λ (k : ℕ). worked job b g bound (starting_row job b last g stored) k) counted
          ∙ sym (visit-works (boards job.shape) _ job.ceiling g b last stored bound (job.ceiling - g) (job.ceiling - suc g) left
          some away (omega arith)))
          (rows-below job b last g stored table put fits e)
