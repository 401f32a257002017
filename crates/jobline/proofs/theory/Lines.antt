-- The lines of answers in pieces, as they are written, their letters, and their lengths. How long they get is in `Short`.
-- Assumes nothing.
use Prim.Native.Nat.{ℕ, ◌+◌, max}
use native.Mathlib.Omega.{arith}
use mathlib.Core.Path.{◌≡◌, refl, ap, sym, ◌∙◌}
use mathlib.Core.List.{List, [], ◌∷◌, ◌++◌, append_assoc}
use lib.ListN.{length, length-append, length-map}
use Rattle.jobline.specs.Numeral.{space, line_feed}
use Rattle.jobline.specs.Line.{decimal, letter, letters, opening, plan_word, plan_line, refused_word, refused_line}

pub plan-pieces : (visits : ℕ) (moves : List ℕ)
    → (opening plan_word (length moves) visits ++ (space ∷ letters moves)) ++ line_feed ∷ [] ≡ plan_line visits moves
unfolding plan_line
plan-pieces visits moves = simp append_assoc

pub refused-pieces : (number cell visits : ℕ)
    → (opening refused_word number cell ++ (space ∷ decimal visits)) ++ line_feed ∷ [] ≡ refused_line number cell visits
unfolding refused_line
refused-pieces number cell visits = simp append_assoc

pub opening-length : (word : List ℕ) (a b : ℕ)
    → length (opening word a b) ≡ length word + length (decimal a) + length (decimal b) + 2
opening-length word a b = simp length-append (omega arith)

-- a dash, or as many letters as moves
pub letters-length : (moves : List ℕ) → length (letters moves) ≡ max (length moves) 1
letters-length [] = refl
letters-length (m ∷ moves) = omega (arith, length-map moves letter)

pub plan-length : (visits : ℕ) (moves : List ℕ)
    → length (plan_line visits moves) ≡ 8 + length (decimal (length moves)) + length (decimal visits) + max (length moves) 1
plan-length visits moves =
    ap length (sym (plan-pieces visits moves)) ∙ simp length-append (omega (arith, letters-length moves))

pub refused-length : (number cell visits : ℕ)
    → length (refused_line number cell visits) ≡ 11 + length (decimal number) + length (decimal cell) + length (decimal visits)
refused-length number cell visits =
    ap length (sym (refused-pieces number cell visits)) ∙ simp length-append (omega arith)
