-- A text of the grammar is read to its numbers: for each field that stands in the text, what the definitions in `Scan` read there.
-- Assumes nothing.
use Prim.Native.Nat.{ℕ, zero, suc, ◌≤◌}
use native.Mathlib.Omega.{arith}
use mathlib.Core.Path.{◌≡◌, refl}
use mathlib.Core.Bool.{false}
use mathlib.Core.List.{List, [], ◌∷◌, ◌++◌}
use lib.ListN.{length}
use lib.Seq.{take-append_seam, drop-append_seam}
use lib.IntN.{ℤ}
use borrow.Author.Tests.{le-leb, ne_eqb}
use Rattle.std.specs.Prelude.{None, Some}
use Rattle.jobline.specs.Numeral.{space, line_feed, minus_sign, Numeral}
use Rattle.jobline.specs.Grammar.{Job, after, Signed, plain as unsigned, minus, Smalls, Spells}
use Rattle.jobline.specs.Grammar.{none as no_cells, more as one_more}
use Rattle.jobline.specs.Scan.{behind, run, read_number, read_field, nines, read_ceiling, read_head}
use Rattle.jobline.specs.Scan.{ends, read_cells, read_job}
use Rattle.jobline.proofs.theory.Runs.{run-append, run-low, value_small}

-- behind a field no digit stands
after_run : (fs : List (List ℕ)) → run (after fs) ≡ 0
after_run [] = run-low line_feed [] (omega arith)
after_run (f ∷ fs) = run-low space (f ++ after fs) (omega arith)

number-complete : (most : ℕ) (s : List ℕ) (v : ℕ) (fs : List (List ℕ)) → Numeral s v → v ≤ most
    → read_number most (s ++ after fs) ≡ Some (v, after fs)
unfolding read_number
number-complete most s v fs n h =
    let size : run (s ++ after fs) ≡ length s = run-append s (after fs) n.digits (after_run fs) in
    rw (
      size,
      take-append_seam s (after fs),
      drop-append_seam s (after fs),
      n.value,
      le-leb 1 (length s) n.some,
      le-leb (length s) 9 n.few,
      le-leb v most h,
    )

field_complete : (most : ℕ) (s : List ℕ) (v : ℕ) (fs : List (List ℕ)) → Numeral s v → v ≤ most
    → read_field most (after (s ∷ fs)) ≡ Some (v, after fs)
unfolding read_field
field_complete most s v fs n h = number-complete most s v fs n h

-- nine digits stay within the limit
nine : (s : List ℕ) (v : ℕ) → Numeral s v → v ≤ nines
nine s v n = omega (arith, value_small s n.digits n.few, n.value)

-- the first byte of a number is no minus
no-minus : (s : List ℕ) (v : ℕ) (rest : List ℕ) → Numeral s v → behind minus_sign (s ++ rest) ≡ None
no-minus [] v rest n = absurd (omega (arith, n.some))
no-minus (b ∷ s) v rest n = rw (ne_eqb b minus_sign (λ e. omega (arith, n.digits.0)))

ceiling-complete : (s : List ℕ) (z : ℤ) (fs : List (List ℕ)) → Signed s z → read_ceiling (after (s ∷ fs)) ≡ Some (z, after fs)
unfolding read_ceiling
ceiling-complete s z fs (unsigned {n = v} n) = rw (no-minus s v (after fs) n, number-complete nines s v fs n (nine s v n))
ceiling-complete s z fs (minus {s = d} {n = v} n) = rw (number-complete nines d v fs n (nine d v n))

-- the cells
end-complete : (k : ℕ) → read_cells k (line_feed ∷ []) ≡ Some []
unfolding read_cells
end-complete zero = refl
end-complete (suc k) = refl

not_end : (s : List ℕ) (fs : List (List ℕ)) → ends (after (s ∷ fs)) ≡ false
not_end [] [] = refl
not_end [] (f ∷ fs) = refl
not_end (b ∷ s) fs = refl

cells-complete : (k : ℕ) (ss : List (List ℕ)) (ns : List ℕ) → Smalls ss ns → length ns ≤ k → read_cells k (after ss) ≡ Some ns
unfolding read_cells
cells-complete k ss ns no_cells h = end-complete k
cells-complete zero ss ns (one_more n c) h = absurd (omega arith)
cells-complete (suc k) ss ns (one_more {s = s} {n = v} {ss = ts} {ns = ms} n c) h =
    rw (not_end s ts, field_complete 255 s v ts n.number n.most, cells-complete k ts ms c (omega arith))

-- a whole text
pub complete : (text : List ℕ) (job : Job) → Spells text job → read_job text ≡ Some job
unfolding read_job read_head
complete text job s =
    rw (
      le-leb (length text) 256 s.short,
      s.whole,
      number-complete 255 s.width_text _ _ s.width.number s.width.most,
      field_complete 255 s.height_text _ _ s.height.number s.height.most,
      ceiling-complete s.ceiling_text _ _ s.ceiling,
      field_complete nines s.budget_text _ _ s.budget (nine _ _ s.budget),
      field_complete 255 s.p_text _ _ s.p.number s.p.most,
      field_complete 255 s.q_text _ _ s.q.number s.q.most,
      cells-complete 32 s.cell_texts job.cells s.cells s.count,
    )
