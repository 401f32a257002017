-- What the code's answer tells of the outcome that it stands for, and how the buffers are left: an answer read back, a path that
-- grows by a move at its front, and a run whose table was written before it. Assumes nothing.
use Prim.Native.Nat.{ℕ, suc, ◌+◌, ◌*◌, ◌<◌}
use mathlib.Core.Path.{◌≡◌, refl, ap, sym, ◌∙◌}
use mathlib.Core.List.{List, [], ◌∷◌, ◌++◌, append_assoc}
use native.Mathlib.Nat.{add-zero}
use native.Mathlib.Omega.{arith}
use lib.ListN.{length, get_or, take, drop, set, take-append-drop}
use lib.Seq.{take-suc, set_at, length-take-le}
use Rattle.search.specs.declared.Out.{Out}
use Rattle.search.specs.declared.Out.TheVariants.{Found, Value, Spent}
use Rattle.search.specs.Search.{Outcome, found, value, spent}
use Rattle.search.specs.Run.{told, written, Ran}

-- ---- an answer read back

pub record ToldFound (g : ℕ) (o : Outcome) (n left : ℕ) : Type 0 where
  pub moves : List ℕ
  pub is : o ≡ found moves left
  pub long : n ≡ g + length moves

pub told-found : (g : ℕ) (o : Outcome) (n left : ℕ) → told g o ≡ Found n left → ToldFound g o n left
unfolding told
told-found g (found ms rest) n left e = record { moves = ms; is = cc; long = cc }
told-found g (value v rest) n left e = let z : ◌≡◌ {A = ℕ} 0 1 = cc in absurd (omega arith)
told-found g spent n left e = let z : ◌≡◌ {A = ℕ} 0 1 = cc in absurd (omega arith)

pub told-value : (g : ℕ) (o : Outcome) (v left : ℕ) → told g o ≡ Value v left → o ≡ value v left
unfolding told
told-value g (found ms rest) v left e = let z : ◌≡◌ {A = ℕ} 0 1 = cc in absurd (omega arith)
told-value g (value w rest) v left e = cc
told-value g spent v left e = let z : ◌≡◌ {A = ℕ} 0 1 = cc in absurd (omega arith)

pub told-spent : (g : ℕ) (o : Outcome) → told g o ≡ Spent → o ≡ spent
unfolding told
told-spent g (found ms rest) e = let z : ◌≡◌ {A = ℕ} 0 1 = cc in absurd (omega arith)
told-spent g (value v rest) e = let z : ◌≡◌ {A = ℕ} 0 1 = cc in absurd (omega arith)
told-spent g spent e = refl

-- ---- a path with one move more at its front

one_earlier : (g m : ℕ) (ms : List ℕ) (left : ℕ) (moves : List ℕ) → g < length moves
    → set (written (suc g) (found ms left) moves) g m ≡ written g (found (m ∷ ms) left) moves
unfolding written
one_earlier g m ms left moves h =
    let further : suc g + length ms ≡ g + suc (length ms) = omega arith in
    ap (λ (l : List ℕ). set (l ++ (ms ++ drop (suc g + length ms) moves)) g m) (take-suc moves g 0 h)
    ∙ ap (λ (l : List ℕ). set l g m) (append_assoc (take g moves) (get_or moves g 0 ∷ []) (ms ++ drop (suc g + length ms) moves))
    ∙ set_at (take g moves) (get_or moves g 0) (ms ++ drop (suc g + length ms) moves) m g (length-take-le g moves (omega arith))
    ∙ ap (λ (k : ℕ). take g moves ++ (m ∷ (ms ++ drop k moves))) further

-- ---- a run on a table whose rows below g are another's, for an outcome that is another's

pub ran_for : {g : ℕ} {o o' : Outcome} {table table₁ moves : List ℕ} {r : Out} {table' moves' : List ℕ} → o ≡ o'
    → take (4 * g) table₁ ≡ take (4 * g) table → Ran g o table₁ moves r table' moves' → Ran g o' table moves r table' moves'
ran_for {g} {moves = moves} e same ran =
    record {
      answer = ran.answer ∙ ap (told g) e;
      path = ran.path ∙ ap (λ (x : Outcome). written g x moves) e;
      below = ran.below ∙ same;
    }

-- ---- a run whose answer is told by a number

pub ran-told : {g : ℕ} {o : Outcome} {table moves : List ℕ} {r told' : Out} {table' moves' : List ℕ} → told' ≡ r
    → Ran g o table moves r table' moves' → Ran g o table moves told' table' moves'
ran-told e ran = record { answer = e ∙ ran.answer; path = ran.path; below = ran.below }

-- ---- a run that found the goal one move deeper, with the move stored in front

pub ran-found : (g m : ℕ) (ms : List ℕ) (left n : ℕ) {table moves table' : List ℕ} → g < length moves → n ≡ suc g + length ms
    → take (4 * g) table' ≡ take (4 * g) table
    → Ran g (found (m ∷ ms) left) table moves (Found n left) table' (set (written (suc g) (found ms left) moves) g m)
unfolding told
ran-found g m ms left n {moves = moves} inside long below =
    let longer : n ≡ g + suc (length ms) = omega arith in
    record { answer = ap (λ (k : ℕ). Found k left) longer; path = one_earlier g m ms left moves inside; below = below }

-- ---- a run that touches nothing

module _ (g : ℕ) (table moves : List ℕ) where
  pub ran-value : (v left : ℕ) → Ran g (value v left) table moves (Value v left) table moves
  unfolding told written
  ran-value v left = record { answer = refl; path = refl; below = refl }

  pub ran-found-here : (left : ℕ) → Ran g (found [] left) table moves (Found g left) table moves
  unfolding told written
  ran-found-here left =
      record {
        answer = ap (λ (k : ℕ). Found k left) (sym (add-zero g));
        path = sym (take-append-drop g moves) ∙ ap (λ (k : ℕ). take g moves ++ drop k moves) (sym (add-zero g));
        below = refl;
      }

  pub ran-spent : Ran g spent table moves Spent table moves
  unfolding told written
  ran-spent = record { answer = refl; path = refl; below = refl }
