-- What the reader reads is of the grammar: from each answer of the definitions in `Scan`, the fields that stand in the text.
-- Assumes nothing.
use Prim.Native.Nat.{ℕ, zero, suc, ◌≤◌}
use native.Mathlib.Omega.{arith}
use mathlib.Core.Path.{◌≡◌, refl, ap, sym, ◌∙◌, subst}
use mathlib.Core.Bool.{Bool, true, false, cond, ◌&&◌}
use mathlib.Core.List.{List, [], ◌∷◌, ◌++◌}
use lib.Dec.{leb}
use lib.IntN.{ℤ}
use lib.ListN.{length, take, drop, take-append-drop}
use borrow.Author.Tests.{leb-true, eqb-true}
use Rattle.std.specs.Prelude.{Option, None, Some, option_and_then}
use Rattle.std.proofs.lemmas.List.Folds.{length-prefix_len}
use Rattle.jobline.specs.Numeral.{space, line_feed, minus_sign, Numeral, value_of}
use Rattle.jobline.specs.Grammar.{Job, job_of, after, Small, Signed, plain as unsigned, minus, Smalls, Spells}
use Rattle.jobline.specs.Grammar.{none as no_cells, more as one_more}
use Rattle.jobline.specs.Scan.{Read, behind, is_digit, run, read_number, read_field, nines, signed, plain, negated, read_ceiling, read_head}
use Rattle.jobline.specs.Scan.{ends, read_cells, read_job}
use Rattle.jobline.specs.declared.read.Numbers.{Numbers}
use Rattle.jobline.proofs.theory.Runs.{run-digits}
use Rattle.jobline.proofs.theory.Steps.{onward, behind-some}

-- a number at the front of a text: its bytes, and what is left behind it
record AtFront (P : List ℕ → Type 0) (front : List ℕ → List ℕ) (text rest : List ℕ) : Type 0 where
  s : List ℕ
  spelled : P s
  split : text ≡ front s ++ rest

abbrev Within : ℕ → ℕ → List ℕ → Type 0
Within most v s = Numeral s v × (v ≤ most)

small : {s : List ℕ} {v : ℕ} → Within 255 v s → Small s v
small w = record { number = w.0; most = w.1 }

-- what the tests of a number say
record Found (most : ℕ) (text : List ℕ) (v : ℕ) (rest : List ℕ) : Type 0 where
  some : 1 ≤ run text
  few : run text ≤ 9
  small : v ≤ most
  value : value_of (take (run text) text) ≡ v
  left : drop (run text) text ≡ rest

found : (most : ℕ) (text : List ℕ) (v : ℕ) (rest : List ℕ) → read_number most text ≡ Some (v, rest)
    → Found most text v rest
unfolding read_number
found most text v rest e =
    go (leb 1 (run text)) (leb (run text) 9) (leb (value_of (take (run text) text)) most) refl refl refl e
  where
    go : (a b d : Bool) → leb 1 (run text) ≡ a → leb (run text) 9 ≡ b → leb (value_of (take (run text) text)) most ≡ d
        → cond {A = Read ℕ} (a && (b && d)) (Some (value_of (take (run text) text), drop (run text) text)) None ≡ Some (v, rest)
        → Found most text v rest
    go true true true p q r e =
        let same : (value_of (take (run text) text), drop (run text) text) ≡ (v, rest) = cc in
        let worth : value_of (take (run text) text) ≡ v = ap (λ (r : ℕ × List ℕ). r.0) same in
        record {
          some = leb-true 1 (run text) p;
          few = leb-true (run text) 9 q;
          small = rw worth at (leb-true (value_of (take (run text) text)) most r);
          value = worth;
          left = ap (λ (r : ℕ × List ℕ). r.1) same;
        }
    go true true false p q r e = cc
    go true false d p q r e = cc
    go false b d p q r e = cc

number-sound : (most : ℕ) (text : List ℕ) (v : ℕ) (rest : List ℕ) → read_number most text ≡ Some (v, rest)
    → AtFront (Within most v) (λ s. s) text rest
number-sound most text v rest e =
    let f = found most text v rest e in
    let size = length-prefix_len is_digit text in
    record {
      s = take (run text) text;
      spelled = (
        record { digits = run-digits text; some = omega (arith, f.some); few = omega (arith, f.few); value = f.value },
        f.small,
      );
      split = sym (take-append-drop (run text) text) ∙ ap (λ (l : List ℕ). take (run text) text ++ l) f.left;
    }

-- a field is what follows, behind a space
spaced : {P : List ℕ → Type 0} {text number rest : List ℕ} → behind space text ≡ Some number → AtFront P (λ s. s) number rest
    → AtFront P (λ s. space ∷ s) text rest
spaced {text = text} {number = number} b n =
    record { s = n.s; spelled = n.spelled; split = behind-some space text number b ∙ ap (λ (l : List ℕ). space ∷ l) n.split }

field_sound : (most : ℕ) (text : List ℕ) (r : ℕ × List ℕ) → read_field most text ≡ Some r
    → AtFront (Within most r.0) (λ s. space ∷ s) text r.1
unfolding read_field
field_sound most text r e = go (behind space text) refl e
  where
    go : (number : Option (List ℕ)) → behind space text ≡ number → option_and_then (read_number most) number ≡ Some r
        → AtFront (Within most r.0) (λ s. space ∷ s) text r.1
    go None b e = cc
    go (Some number) b e = spaced b (number-sound most number r.0 r.1 e)

-- a number, or a minus and then a number
abbrev SignedBy : List ℕ → Read ℤ → Type 0
SignedBy text None = Unit {0}
SignedBy text (Some r) = AtFront (λ s. Signed s r.0) (λ s. s) text r.1

signed-sound : (text : List ℕ) (found : Option (List ℕ)) → behind minus_sign text ≡ found → SignedBy text (signed text found)
signed-sound text None b = go (read_number nines text) refl
  where
    go : (read : Read ℕ) → read_number nines text ≡ read → SignedBy text (plain read)
    go None is = tt
    go (Some r) is =
        let n = number-sound nines text r.0 r.1 is in
        record { s = n.s; spelled = unsigned n.spelled.0; split = n.split }
signed-sound text (Some digits) b = go (read_number nines digits) refl
  where
    go : (read : Read ℕ) → read_number nines digits ≡ read → SignedBy text (negated read)
    go None is = tt
    go (Some r) is =
        let n = number-sound nines digits r.0 r.1 is in
        record {
          s = minus_sign ∷ n.s;
          spelled = minus n.spelled.0;
          split = behind-some minus_sign text digits b ∙ ap (λ (l : List ℕ). minus_sign ∷ l) n.split;
        }

ceiling-sound : (text : List ℕ) (r : ℤ × List ℕ) → read_ceiling text ≡ Some r → AtFront (λ s. Signed s r.0) (λ s. space ∷ s) text r.1
unfolding read_ceiling
ceiling-sound text r e = go (behind space text) refl e
  where
    go : (number : Option (List ℕ)) → behind space text ≡ number
        → option_and_then (λ number. signed number (behind minus_sign number)) number ≡ Some r
        → AtFront (λ s. Signed s r.0) (λ s. space ∷ s) text r.1
    go None b e = cc
    go (Some number) b e = spaced b (subst (SignedBy number) e (signed-sound number (behind minus_sign number) refl))

-- the six fields before the cells, each behind the one before
record Opened (text : List ℕ) (n : Numbers) (rest : List ℕ) : Type 0 where
  from_height : List ℕ
  from_ceiling : List ℕ
  from_budget : List ℕ
  from_p : List ℕ
  from_q : List ℕ
  width : AtFront (Within 255 n.width) (λ s. s) text from_height
  height : AtFront (Within 255 n.height) (λ s. space ∷ s) from_height from_ceiling
  ceiling : AtFront (λ s. Signed s n.ceiling) (λ s. space ∷ s) from_ceiling from_budget
  budget : AtFront (Within nines n.budget) (λ s. space ∷ s) from_budget from_p
  p : AtFront (Within 255 n.p) (λ s. space ∷ s) from_p from_q
  q : AtFront (Within 255 n.q) (λ s. space ∷ s) from_q rest

abbrev OpenedBy : List ℕ → Read Numbers → Type 0
OpenedBy text None = Unit {0}
OpenedBy text (Some r) = Opened text r.0 r.1

head_sound : (text : List ℕ) → OpenedBy text (read_head text)
unfolding read_head
head_sound text =
    onward (OpenedBy text) (read_number 255 text) _ tt λ w e₁.
    onward (OpenedBy text) (read_field 255 w.1) _ tt λ h e₂.
    onward (OpenedBy text) (read_ceiling h.1) _ tt λ c e₃.
    onward (OpenedBy text) (read_field nines c.1) _ tt λ b e₄.
    onward (OpenedBy text) (read_field 255 b.1) _ tt λ p e₅.
    onward (OpenedBy text) (read_field 255 p.1) _ tt λ q e₆.
    record {
      from_height = w.1;
      from_ceiling = h.1;
      from_budget = c.1;
      from_p = b.1;
      from_q = p.1;
      width = number-sound 255 text w.0 w.1 e₁;
      height = field_sound 255 w.1 h e₂;
      ceiling = ceiling-sound h.1 c e₃;
      budget = field_sound nines c.1 b e₄;
      p = field_sound 255 b.1 p e₅;
      q = field_sound 255 p.1 q e₆;
    }

-- the text ends there
end-sound : (text : List ℕ) → ends text ≡ true → text ≡ line_feed ∷ []
end-sound [] e = cc
end-sound (b ∷ []) e = let h = eqb-true b line_feed e in cc
end-sound (b ∷ c ∷ rest) e = cc

-- the cells to the end of the text
record Closed (k : ℕ) (text ns : List ℕ) : Type 0 where
  ss : List (List ℕ)
  cells : Smalls ss ns
  count : length ns ≤ k
  split : text ≡ after ss

abbrev ClosedBy : ℕ → List ℕ → Option (List ℕ) → Type 0
ClosedBy k text None = Unit {0}
ClosedBy k text (Some ns) = Closed k text ns

ended : (k : ℕ) (text : List ℕ) → ends text ≡ true → Closed k text []
ended k text e = record { ss = []; cells = no_cells; count = omega arith; split = end-sound text e }

cells-sound : (k : ℕ) (text : List ℕ) → ClosedBy k text (read_cells k text)
unfolding read_cells
cells-sound zero text = go (ends text) refl
  where
    go : (t : Bool) → ends text ≡ t → ClosedBy zero text (cond t (Some []) None)
    go true e = ended zero text e
    go false e = tt
cells-sound (suc k) text = go (ends text) refl (λ rest. cells-sound k rest)
  where
    onto : (cell : ℕ × List ℕ) → read_field 255 text ≡ Some cell → (ns : List ℕ) → Closed k cell.1 ns
        → Closed (suc k) text (cell.0 ∷ ns)
    onto cell e ns c =
        let n = field_sound 255 text cell e in
        record {
          ss = n.s ∷ c.ss;
          cells = one_more (small n.spelled) c.cells;
          count = omega (arith, c.count);
          split = n.split ∙ ap (λ (l : List ℕ). (space ∷ n.s) ++ l) c.split;
        }

    go : (t : Bool) → ends text ≡ t → ((rest : List ℕ) → ClosedBy k rest (read_cells k rest))
        → ClosedBy (suc k) text
        (cond t (Some [])
        (option_and_then (λ cell. option_and_then (λ ns. Some (cell.0 ∷ ns)) (read_cells k cell.1)) (read_field 255 text)))
    go true e ih = ended (suc k) text e
    go false e ih =
        onward (ClosedBy (suc k) text) (read_field 255 text) _ tt λ cell f.
        onward (ClosedBy (suc k) text) (read_cells k cell.1) _ tt λ ns g. onto cell f ns (subst (ClosedBy k cell.1) g (ih cell.1))

-- a whole text
abbrev SpeltBy : List ℕ → Option Job → Type 0
SpeltBy text None = Unit {0}
SpeltBy text (Some job) = Spells text job

along : (x : List ℕ) {y z : List ℕ} → y ≡ z → x ++ y ≡ x ++ z
along x e = ap (λ (l : List ℕ). x ++ l) e

whole : (text : List ℕ) (numbers : Numbers) (rest ns : List ℕ) → length text ≤ 256 → Opened text numbers rest → Closed 32 rest ns
    → Spells text (job_of numbers ns)
whole text numbers rest ns h o c =
    record {
      width_text = o.width.s;
      height_text = o.height.s;
      ceiling_text = o.ceiling.s;
      budget_text = o.budget.s;
      p_text = o.p.s;
      q_text = o.q.s;
      cell_texts = c.ss;
      whole =
          o.width.split
          ∙ along o.width.s
          (o.height.split
          ∙ along (space ∷ o.height.s)
          (o.ceiling.split
          ∙ along (space ∷ o.ceiling.s)
          (o.budget.split
          ∙ along (space ∷ o.budget.s) (o.p.split ∙ along (space ∷ o.p.s) (o.q.split ∙ along (space ∷ o.q.s) c.split)))));
      short = h;
      width = small o.width.spelled;
      height = small o.height.spelled;
      ceiling = o.ceiling.spelled;
      budget = o.budget.spelled.0;
      p = small o.p.spelled;
      q = small o.q.spelled;
      cells = c.cells;
      count = c.count;
    }

text-sound : (text : List ℕ) → SpeltBy text (read_job text)
unfolding read_job
text-sound text = go (leb (length text) 256) refl
  where
    go : (t : Bool) → leb (length text) 256 ≡ t
        → SpeltBy text
        (cond t (option_and_then (λ head. option_and_then (λ ns. Some (job_of head.0 ns)) (read_cells 32 head.1)) (read_head text)) None)
    go true e =
        onward (SpeltBy text) (read_head text) _ tt λ head f.
        onward (SpeltBy text) (read_cells 32 head.1) _ tt λ ns g.
        whole text head.0 head.1 ns (leb-true (length text) 256 e) (subst (OpenedBy text) f (head_sound text))
        (subst (ClosedBy 32 head.1) g (cells-sound 32 head.1))
    go false e = tt

pub sound : (text : List ℕ) (job : Job) → read_job text ≡ Some job → Spells text job
sound text job e = subst (SpeltBy text) e (text-sound text)
