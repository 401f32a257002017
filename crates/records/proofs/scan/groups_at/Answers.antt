-- `scan::groups_at` meets its contract. The invariant: the groups looked at are worth the value, and the rest decides the whole.
-- Assumes nothing.
use Prim.Native.Nat.{ℕ, zero, suc, ◌+◌, ◌-◌, ◌*◌, ◌%◌, ◌≤◌, ◌<◌}
use native.Mathlib.Omega.{arith}
use native.Mathlib.Numerals.{add-one}
use mathlib.Core.Path.{◌≡◌, sym, ap, ◌∙◌}
use mathlib.Core.List.{List}
use lib.ListN.{length, get_or}
use borrow.Author.Tests.{ltb-true, ltb-false}
use Rattle.std.proofs.lemmas.List.{get_or_default}
use Rattle.std.specs.Prelude.{Err}
use Rattle.records.specs.declared.ReadRefusal.TheVariants.{CutShort, BadNumber}
use Rattle.records.specs.Scan.{Found, ended, groups_at}
use Rattle.records.proofs.theory.Scanning.{groups-out, groups_cut, groups-last, groups-more, worth-next, worth-fits}
use Rattle.records.proofs.scan.groups_at.Invariants.{Looked}
use Rattle.records.proofs.scan.groups_at.Goals as goal

module _ (bytes : List ℕ) (first value at count : ℕ) (looked : Looked bytes first value at count) where
  -- where one group more may come
  whole : count < 5 → groups_at (suc (5 - (count + 1))) bytes first value at ≡ groups_at 5 bytes first 0 first
  whole more =
      let left : suc (5 - (count + 1)) ≡ 5 - count = omega arith in
      ap (λ k. groups_at k bytes first value at) left ∙ looked.rest

  cut-here : count < 5 → length bytes ≤ at → Err (CutShort (length bytes)) ≡ groups_at 5 bytes first 0 first
  cut-here more cut = sym (groups_cut bytes first value at (5 - (count + 1)) cut) ∙ whole more

  module _ (b : ℕ) (is : b ≡ get_or bytes at 0) (more : count < 5) (inside : at < length bytes) where
    ended_here : {r : Found ℕ} → b < 128 → r ≡ ended first (value * 128 + b % 128) (at + 1) → r ≡ groups_at 5 bytes first 0 first
    ended_here last e =
        e
        ∙ ap (λ k. ended first (value * 128 + k % 128) (at + 1)) is
        ∙ sym (groups-last bytes first value at (5 - (count + 1)) inside (omega (arith, is)))
        ∙ whole more

    looked-more : 128 ≤ b → Looked bytes first (value * 128 + b % 128) (at + 1) (count + 1)
    looked-more large =
        record {
          few = omega arith;
          small = rw add-one (worth-next value count (b % 128) looked.small (omega arith));
          rest =
              ap (λ k. groups_at (5 - (count + 1)) bytes first (value * 128 + k % 128) (at + 1)) is
              ∙ sym (groups-more bytes first value at (5 - (count + 1)) inside (omega (arith, is)))
              ∙ whole more;
        }

  out-of-groups : 5 ≤ count → Err (BadNumber first) ≡ groups_at 5 bytes first 0 first
  out-of-groups all =
      let none : zero ≡ 5 - count = omega arith in
      groups-out bytes first value at ∙ ap (λ k. groups_at k bytes first value at) none ∙ looked.rest

-- the byte that `get` found
item : (bytes : List ℕ) (at b : ℕ) → at < length bytes → b ≡ get_or bytes at b → b ≡ get_or bytes at 0
item bytes at b inside is = is ∙ get_or_default bytes at b 0 inside

pub returns-in_default : goal.returns-in_default
returns-in_default c =
    cut-here _ _ _ _ _ c.loop-count.invariant c.loop-count-test.true (ltb-false _ _ (sym c.in_default.ensures.lookup.0))

pub overflow_mul-value : goal.overflow_mul-value
overflow_mul-value c =
    omega (arith, worth-fits _ c.loop-count._count c.loop-count.invariant.small c.loop-count-test.true)

pub overflow_add-value : goal.overflow_add-value
overflow_add-value c =
    omega (arith, worth-fits _ c.loop-count._count c.loop-count.invariant.small c.loop-count-test.true)

pub returns-then-b-lt128 : goal.returns-then-b-lt128
returns-then-b-lt128 c =
    let inside = ltb-true _ _ (sym c.in-Some.ensures.lookup.0) in
    ended_here _ _ _ _ _ c.loop-count.invariant _ (item _ _ _ inside c.in-Some.ensures.lookup.1) c.loop-count-test.true inside
    c.if-b-lt128.true (rw c.from.ensures at c.ended.ensures)

pub loop-count-preserved : goal.loop-count-preserved
loop-count-preserved c =
    let inside = ltb-true _ _ (sym c.in-Some.ensures.lookup.0) in
    rw c.from.ensures
    (looked-more _ _ _ _ _ c.loop-count.invariant _ (item _ _ _ inside c.in-Some.ensures.lookup.1) c.loop-count-test.true inside
    c.if-b-lt128.false)

pub returns : goal.returns
returns c =
    out-of-groups _ _ _ _ _ c.loop-count.invariant (omega (arith, c.loop-count-test.false))
