-- The answer that the search's end makes: how many visits are left, and what is settled. Assumes nothing.
use Prim.Native.Nat.{ℕ, ◌-◌}
use mathlib.Core.Path.{◌≡◌, refl, sym, ap, subst, ◌∙◌}
use mathlib.Core.List.{List, ◌++◌}
use native.Mathlib.Nat.{zero-add}
use native.Mathlib.Omega.{arith}
use lib.ListN.{length, drop}
use Rattle.board.specs.declared.Shape.{Shape}
use Rattle.board.specs.Tests.{NoneHolds}
use Rattle.search.specs.declared.Job.{Job}
use Rattle.search.specs.declared.Out.{Out}
use Rattle.search.specs.Search.{Outcome, found, value, spent}
use Rattle.search.specs.Run.{told, written, of_job, Searched}
use Rattle.search.proofs.theory.Theory.{plan_counts, value_counts}
use Rattle.planner.specs.declared.Terms.{Terms}
use Rattle.planner.specs.Answer.{Answer}
use Rattle.std.specs.Prelude.{Ok}
use Rattle.planner.specs.Limits.{ceiling_of}
use Rattle.planner.specs.Answer.{Call, cleared, tests, searched, concluded, answered, within, Settles}
use Rattle.planner.specs.Ends.{LeftWithin, answer_of}
use Rattle.planner.proofs.theory.Ways.{ran_to}

-- ---- how many visits are left

pub left-within : (job : Job) (b : List ℕ) (budget : ℕ) (moves table : List ℕ) (r : Out) (moves' table' : List ℕ)
    → Searched job b budget moves table r moves' table' → LeftWithin budget r
unfolding told
left-within job b budget moves table r moves' table' it = subst (LeftWithin budget) (sym it.answer) (of (of_job job b budget) refl)
  where
    of : (o : Outcome) → of_job job b budget ≡ o → LeftWithin budget (told 0 o)
    of (found ms left) e = omega (arith, plan_counts _ _ _ _ _ e)
    of (value v left) e = omega (arith, value_counts _ _ _ _ _ e)
    of spent e = tt

-- ---- the answer

concludes : (c : Call) (o : Outcome) → Settles (concluded c o) (answer_of c.budget (told 0 o)) (written 0 o c.moves) (cleared c)
unfolding concluded told written
concludes c (found ms left) =
    record {
      answer = ap (λ (n : ℕ). Ok (record { length = n; visits = c.budget - left })) (zero-add (length ms));
      moves = ap (λ (n : ℕ). ms ++ drop n c.moves) (zero-add (length ms));
      table = refl;
    }
concludes c (value v left) = record { answer = refl; moves = refl; table = refl }
concludes c spent = record { answer = refl; moves = refl; table = refl }

-- every test is passed: the search's end settles the call
pub search_settles : (s : Shape) (b : List ℕ) (t : Terms) (budget : ℕ) (moves table : List ℕ) (b' : List ℕ) (r : Out) (a : Answer)
    (moves' table' : List ℕ) → NoneHolds (tests (within s b t budget moves table)) → b' ≡ b
    → Searched (record { shape = s; weight = t.weight; ceiling = t.ceiling }) b' budget moves table r moves' table'
    → a ≡ answer_of budget r → Settles (answered (within s b t budget moves table)) a moves' table'
unfolding searched ceiling_of
search_settles s b t budget moves table b' r a moves' table' passed same it is =
    let c = within s b t budget moves table in
    let job : Job = record { shape = s; weight = t.weight; ceiling = t.ceiling } in
    let o = of_job job b' budget in
    let end = concludes c o in
    let all : answered c ≡ concluded c o = ran_to c passed (ap (λ (l : List ℕ). of_job job l budget) (sym same)) in
    rw all
    (record {
      answer = is ∙ ap (answer_of budget) it.answer ∙ end.answer;
      moves = it.path ∙ end.moves;
      table = it.rows ∙ end.table;
    })
