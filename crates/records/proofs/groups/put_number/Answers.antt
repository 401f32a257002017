-- `groups::put_number` meets its contract: from the right, the leading groups while a place is left, and then the last group.
-- Assumes nothing.
use Prim.Native.Nat.{ℕ, zero, suc, ◌+◌, ◌-◌, ◌/◌, ◌%◌, ◌≤◌, ◌<◌}
use native.Mathlib.Omega.{arith}
use mathlib.Core.Path.{◌≡◌, refl, sym, ap, ◌∙◌}
use mathlib.Core.List.{List, [], ◌∷◌, ◌++◌, append_assoc, append-nil}
use lib.ListN.{length, set}
use lib.Seq.{sets}
use Rattle.records.specs.Groups.{leading, groups}
use Rattle.records.specs.Put.{Put}
use Rattle.records.proofs.theory.Grouping.{leading-none, leading-more, leading-longer, groups_are, groups-longer}
use Rattle.records.proofs.code.Storing.{store_before, put_then}
use Rattle.records.proofs.groups.put_number.Invariants.{Putting}
use Rattle.records.proofs.groups.put_number.Goals as goal

empty : (l : List ℕ) → length l ≡ 0 → l ≡ []
empty [] e = refl
empty (a ∷ l) e = cc

module _ (n at : ℕ) (old : List ℕ) where
  begun : (place : ℕ) → place ≡ at + length (groups n) - 1 → Putting n at old old place (n / 128)
  begun place e =
      record { behind = []; whole = sym (append-nil (leading (n / 128))); before = omega (arith, e, groups-longer n); stored = refl }

  module _ (new : List ℕ) (place rest : ℕ) (putting : Putting n at old new place rest) where
    some_left : at < place → 0 < rest
    some_left inside = go rest (omega (arith, putting.before))
      where
        go : (k : ℕ) → 0 < length (leading k) → 0 < k
        go zero h = absurd (omega (arith, ap length leading-none))
        go (suc k) h = omega arith

    one_more : at < place → Putting n at old (set new (place - 1) (128 + rest % 128)) (place - 1) (rest / 128)
    one_more inside =
        let some = some_left inside in
        let next : place ≡ suc (place - 1) = omega arith in
        record {
          behind = (128 + rest % 128) ∷ putting.behind;
          whole =
              putting.whole
              ∙ ap (λ front. front ++ putting.behind) (leading-more rest some)
              ∙ append_assoc (leading (rest / 128)) ((128 + rest % 128) ∷ []) putting.behind;
          before = omega (arith, putting.before, leading-longer rest some);
          stored =
              ap (λ l. set l (place - 1) (128 + rest % 128))
              (putting.stored ∙ ap (λ from. sets old from putting.behind) next)
              ∙ store_before old (place - 1) (128 + rest % 128) putting.behind;
        }

    all-put : (k : ℕ) → k ≡ length (groups n) → place ≤ at → Put (groups n) old at (set new (at + k - 1) (n % 128)) (at + k)
    all-put k e done =
        let gone : leading rest ≡ [] = empty (leading rest) (omega (arith, putting.before)) in
        let all : putting.behind ≡ leading (n / 128) = sym (putting.whole ∙ ap (λ front. front ++ putting.behind) gone) in
        let start : place ≡ at = omega (arith, putting.before) in
        let led : Put (leading (n / 128)) old at new (at + k - 1) =
        record { stored = putting.stored ∙ rw (start, all); end = omega (arith, e, groups-longer n) } in
        rw (groups_are n) (put_then led (record { stored = refl; end = omega (arith, e, groups-longer n) }))

pub overflow_sub-last : goal.overflow_sub-last
overflow_sub-last c =
    omega (arith, c.group_count.ensures, groups-longer c.args.n)

pub loop-place-init : goal.loop-place-init
loop-place-init c =
    begun _ _ _ _ (omega (arith, c.group_count.ensures))

pub loop-place-preserved : goal.loop-place-preserved
loop-place-preserved c =
    one_more _ _ _ _ _ _ c.loop-place.invariant c.loop-place-test.true

pub bounds-out-last : goal.bounds-out-last
bounds-out-last c =
    omega (arith, c.loop-place.auto.out, c.group_count.ensures, c.requires, groups-longer c.args.n)

pub returns : goal.returns
returns c =
    all-put _ _ _ _ _ _ c.loop-place.invariant _ c.group_count.ensures c.loop-place-test.false
