-- `read::value_of` meets its contract: digits are text, and `parse` reads them unless there are none.
-- Assumes nothing.
use Prim.Native.Nat.{ℕ, ◌^◌, ◌<◌}
use native.Mathlib.Omega.{arith}
use mathlib.Core.Path.{◌≡◌, refl, ◌∙◌}
use mathlib.Core.List.{List, [], ◌∷◌}
use lib.ListN.{length}
use borrow.Author.Tests.{le-leb}
use Rattle.std.specs.Prelude.{None, Some, Result, Ok, Err, MatchResult, IsUtf8}
use Rattle.std.specs.Borrow.{Bor}
use Rattle.std.specs.Result.{result_ok, OkIff}
use Rattle.std.proofs.lemmas.Fmt.{IsAscii-from_digits}
use Rattle.std.proofs.lemmas.Str.{IsUtf8-from_ascii}
use Rattle.std.proofs.lemmas.Str.Parse.{parse_digits}
use Rattle.jobline.specs.Numeral.{Digits, value_of}
use Rattle.jobline.specs.Scan.{value_if_any}
use Rattle.jobline.proofs.theory.Runs.{numerals, value_small}
use Rattle.jobline.proofs.read.value_of.Goals as goal

is_text : (digits : List ℕ) → Digits digits → IsUtf8 digits
is_text digits d = IsUtf8-from_ascii digits (IsAscii-from_digits digits (numerals.to digits d))

-- what `from_utf8` says of a text: it is none for no other reason, and else the same bytes
module _ {E : Type 0} (digits : List ℕ) (Q : E → Type 0) where
  none_left : (r : Result (Bor (List ℕ)) E) → MatchResult r (λ s. (s.now ≡ digits) × IsUtf8 digits) (λ e. (IsUtf8 digits → ⊥) × Q e)
      → Digits digits → None ≡ result_ok r → ⊥
  none_left (Ok s) h d e = cc
  none_left (Err e) h d same = h.0 (is_text digits d)

  same_text : (r : Result (Bor (List ℕ)) E) (s : Bor (List ℕ))
      → MatchResult r (λ s. (s.now ≡ digits) × IsUtf8 digits) (λ e. (IsUtf8 digits → ⊥) × Q e) → Some s ≡ result_ok r → s.now ≡ digits
  same_text (Ok t) s h e = let same : s ≡ t = cc in rw same h.0
  same_text (Err t) s h e = cc

-- what `parse` reads of digits
parsed : {E : Type 0} (digits : List ℕ) (r : Result ℕ E) → OkIff r ((0 < length digits) × (value_of digits < 2 ^ 32)) (value_of digits)
    → value_of digits < 1000000000 → result_ok r ≡ value_if_any digits
parsed digits (Ok v) h small = rw (le-leb 1 (length digits) h.0.0, h.1)
parsed [] (Err e) h small = refl
parsed (b ∷ digits) (Err e) h small = absurd (h (omega arith, omega arith))

pub returns-in_err-ok : goal.returns-in_err-ok
returns-in_err-ok c =
    absurd (none_left c.args.digits.now _ _ c.from_utf8.ensures.cases c.requires.digits c.in_err-ok.ensures.value)

pub returns : goal.returns
returns c =
    let digits = c.args.digits.now in
    let text : c.in_ok-ok.field-0.now ≡ digits = same_text digits _ _ _ c.from_utf8.ensures.cases c.in_ok-ok.ensures.value in
    let read = rw text at c.parse.ensures.value.0 in
    c.ok-2.ensures.value
    ∙ parsed digits _ (parse_digits numerals 32 digits _ read c.requires.digits) (value_small digits c.requires.digits c.requires.few)
