-- What the whole search rests on: the visit to the start. Assumes nothing.
use Prim.Native.Nat.{ℕ}
use mathlib.Core.Path.{◌≡◌, ap, ap₂, ◌∙◌}
use mathlib.Core.List.{List}
use native.Mathlib.Nat.{sub-zero}
use Rattle.search.specs.declared.Job.{Job}
use Rattle.search.specs.declared.Out.{Out}
use Rattle.search.specs.Row.{infinity}
use Rattle.search.specs.Space.{boards}
use Rattle.search.specs.Search.{Outcome, static, visit, search}
use Rattle.search.specs.Run.{visited, told, written, Ran, of_job, Ended}

-- ---- the visit to the start

start_is : (job : Job) (b : List ℕ) (f budget : ℕ) → f ≡ static (boards job.shape) job.weight 0 b
    → visited job b 4 0 f infinity budget ≡ of_job job b budget
unfolding search
start_is job b f budget e =
    ap₂
    (λ (deep x : ℕ).
    visit (boards job.shape) (static (boards job.shape) job.weight) job.ceiling deep 0 b 4 x infinity budget)
    (sub-zero job.ceiling) e

-- what the visit to the start leaves is what the search of the job leaves
pub started : (job : Job) (b : List ℕ) (f budget : ℕ) (table moves table' moves' : List ℕ) (r : Out)
    → f ≡ static (boards job.shape) job.weight 0 b
    → Ran 0 (visited job b 4 0 f infinity budget) table moves r table' moves' → Ended (of_job job b budget) moves r moves'
started job b f budget table moves table' moves' r e ran =
    record {
      answer = ran.answer ∙ ap (told 0) (start_is job b f budget e);
      path = ran.path ∙ ap (λ (o : Outcome). written 0 o moves) (start_is job b f budget e);
    }
