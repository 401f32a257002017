-- The worked lines of the job program, by computation: jobs, texts that are none, plans, a refusal.
-- Assumes nothing.
use Prim.Native.Nat.{ℕ}
use mathlib.Core.Path.{◌≡◌, refl}
use mathlib.Core.List.{List, [], ◌∷◌, ◌++◌, map}
use lib.IntN.{ℤ, pos, negsuc}
use Rattle.std.specs.Prelude.{codes, None, Some}
use Rattle.jobline.specs.Grammar.{Job, job_of}
use Rattle.jobline.specs.Scan.{read_number, read_field, read_ceiling, read_head, read_cells, read_job}
use Rattle.jobline.specs.Line.{digits_of, decimal, plan_line, refused_line}

-- a job with a ceiling
abbrev job_text : List ℕ → List ℕ
job_text ceiling = codes "2 2 " ++ ceiling ++ codes " 7 1 1 3 2 1 0\n"

abbrev job : ℤ → Job
job ceiling =
    job_of (record { width = 2; height = 2; ceiling = ceiling; budget = 7; p = 1; q = 1 }) (3 ∷ 2 ∷ 1 ∷ 0 ∷ [])

pub texts : map read_job
    (map job_text
    (codes "6" ∷ codes "-1" ∷ codes "-0" ∷ codes "000000006" ∷ codes "0000000006" ∷ codes "--1" ∷ codes "" ∷ []))
    ≡ Some (job (pos 6)) ∷ Some (job (negsuc 0)) ∷ Some (job (pos 0)) ∷ Some (job (pos 6)) ∷ None ∷ None ∷ None ∷ []
unfolding read_job read_head read_cells read_ceiling read_field read_number
texts = refl

pub empty : read_job [] ≡ None
unfolding read_job read_head read_number
empty = refl

pub plan : plan_line 7 (0 ∷ 1 ∷ 3 ∷ 2 ∷ 0 ∷ 1 ∷ []) ≡ codes "plan 6 7 ULDRUL\n"
unfolding plan_line decimal digits_of
plan = refl

pub nothing_to_do : plan_line 1000000 [] ≡ codes "plan 0 1000000 -\n"
unfolding plan_line decimal digits_of
nothing_to_do = refl

pub refusal : refused_line 12 0 0 ≡ codes "refused 12 0 0\n"
unfolding refused_line decimal digits_of
refusal = refl
