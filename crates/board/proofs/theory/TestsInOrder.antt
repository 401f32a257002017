-- Tests in a fixed order: `first_refusal` answers exactly the refusal of the first test that holds, and nothing exactly where none holds.
-- Then lists of tests put together: one list behind another, and a list whose refusals are held by another kind. Assumes nothing.
use mathlib.Core.Path.{◌≡◌, refl, sym, subst}
use mathlib.Core.Bool.{Bool, true, false, cond}
use mathlib.Core.List.{List, [], ◌∷◌, ◌++◌}
use mathlib.Core.Option.{none, some, some-injective, some-ne-none}
use Rattle.board.specs.Tests.{Test, first_refusal, FirstToHold, here, later, NoneHolds, end, past, under}

module _ {R : Type 0} where
  pub first_means : (ts : List (Test R)) (r : R) → first_refusal ts ≡ some r → FirstToHold ts r
  unfolding first_refusal
  first_means [] r e = absurd (some-ne-none r (sym e))
  first_means (t ∷ ts) r e = go t.holds refl e (first_means ts r)
    where
      go : (b : Bool) → t.holds ≡ b → cond b (some t.refusal) (first_refusal ts) ≡ some r
          → (first_refusal ts ≡ some r → FirstToHold ts r) → FirstToHold (t ∷ ts) r
      go true h e' rest = subst (FirstToHold (t ∷ ts)) (some-injective t.refusal r e') (here h)
      go false h e' rest = later h (rest e')

  pub first-given : {ts : List (Test R)} {r : R} → FirstToHold ts r → first_refusal ts ≡ some r
  unfolding first_refusal
  first-given (here h) = rw h
  first-given (later h rest) = rw h (first-given rest)

  pub none_means : (ts : List (Test R)) → first_refusal ts ≡ none → NoneHolds ts
  unfolding first_refusal
  none_means [] e = end
  none_means (t ∷ ts) e = go t.holds refl e (none_means ts)
    where
      go : (b : Bool) → t.holds ≡ b → cond b (some t.refusal) (first_refusal ts) ≡ none
          → (first_refusal ts ≡ none → NoneHolds ts) → NoneHolds (t ∷ ts)
      go true h e' rest = absurd (some-ne-none t.refusal e')
      go false h e' rest = past h (rest e')

  pub none-given : {ts : List (Test R)} → NoneHolds ts → first_refusal ts ≡ none
  unfolding first_refusal
  none-given end = refl
  none-given (past h rest) = rw h (none-given rest)

-- ---- tests under another kind of refusal, and more tests behind them

module _ {R R' : Type 0} (f : R → R') where
  pub front-given : {ts : List (Test R)} {r : R} (us : List (Test R')) → FirstToHold ts r → FirstToHold (under f ts ++ us) (f r)
  unfolding under
  front-given us (here h) = here h
  front-given us (later h rest) = later h (front-given us rest)

  pub behind-given : {ts : List (Test R)} {us : List (Test R')} {r : R'} → NoneHolds ts → FirstToHold us r
      → FirstToHold (under f ts ++ us) r
  unfolding under
  behind-given end first = first
  behind-given (past h rest) first = later h (behind-given rest first)

  pub none_both : {ts : List (Test R)} {us : List (Test R')} → NoneHolds ts → NoneHolds us → NoneHolds (under f ts ++ us)
  unfolding under
  none_both end others = others
  none_both (past h rest) others = past h (none_both rest others)

  -- the first that holds is one of the first list, or of the second where none of the first holds
  pub data Split (ts : List (Test R)) (us : List (Test R')) : R' → Type 0 where
    front : {r : R} → FirstToHold ts r → Split ts us (f r)
    behind : {r : R'} → NoneHolds ts → FirstToHold us r → Split ts us r

  pub first-split : (ts : List (Test R)) {us : List (Test R')} {r : R'} → FirstToHold (under f ts ++ us) r → Split ts us r
  unfolding under
  first-split [] first = behind end first
  first-split (t ∷ ts) (here h) = front (here h)
  first-split (t ∷ ts) (later h rest) = go (first-split ts rest)
    where
      go : {us : List (Test R')} {r : R'} → Split ts us r → Split (t ∷ ts) us r
      go (front first) = front (later h first)
      go (behind passed first) = behind (past h passed) first

  pub none-split : (ts : List (Test R)) {us : List (Test R')} → NoneHolds (under f ts ++ us) → NoneHolds ts × NoneHolds us
  unfolding under
  none-split [] passed = (end, passed)
  none-split (t ∷ ts) (past h rest) = let both = none-split ts rest in (past h both.0, both.1)

  -- the same of `first_refusal`
  pub front-refusal : (ts : List (Test R)) (us : List (Test R')) (r : R) → first_refusal ts ≡ some r
      → first_refusal (under f ts ++ us) ≡ some (f r)
  front-refusal ts us r e = first-given (front-given us (first_means ts r e))

  pub behind-refusal : {ts : List (Test R)} (us : List (Test R')) → NoneHolds ts → first_refusal (under f ts ++ us) ≡ first_refusal us
  unfolding under first_refusal
  behind-refusal us end = refl
  behind-refusal us (past h rest) = rw h (behind-refusal us rest)

  -- what stands behind matters only where none of the first list holds
  pub same-behind : (ts : List (Test R)) (us vs : List (Test R')) → (NoneHolds ts → first_refusal us ≡ first_refusal vs)
      → first_refusal (under f ts ++ us) ≡ first_refusal (under f ts ++ vs)
  unfolding under first_refusal
  same-behind [] us vs same = same end
  same-behind (t ∷ ts) us vs same = go t.holds refl (same-behind ts us vs)
    where
      go : (b : Bool) → t.holds ≡ b
          → ((NoneHolds ts → first_refusal us ≡ first_refusal vs) → first_refusal (under f ts ++ us) ≡ first_refusal (under f ts ++ vs))
          → cond b (some (f t.refusal)) (first_refusal (under f ts ++ us))
          ≡ cond b (some (f t.refusal)) (first_refusal (under f ts ++ vs))
      go true h rest = refl
      go false h rest = rest (λ passed. same (past h passed))
