-- What is promised of plan records: a number's groups are its one shortest form; a record has at most 149 bytes, and one has 149; what is
-- written is a list that solves the board within the ceiling; a refusal is that of the first condition that holds;
-- the output afterwards; and the contract leaves nothing open. Assumes nothing.
use Prim.Native.Nat.{ℕ, ◌≤◌, ◌<◌}
use mathlib.Core.Path.{◌≡◌, sym, ap, ◌∙◌}
use mathlib.Core.Logic.{◌↔◌}
use mathlib.Core.List.{List, ◌++◌}
use native.Mathlib.Omega.{arith}
use lib.IntN.{pos}
use lib.ListN.{length, get_or, take, drop, replicate}
use lib.Seq.{take_at}
use Rattle.std.specs.Prelude.{Result, Ok, Err}
use Rattle.board.specs.Tests.{FirstToHold, NoneHolds}
use Rattle.board.specs.Lists.{Solves}
use Rattle.planner.specs.Limits.{CommonDivisor}
use Rattle.records.specs.declared.PlanRefusal.{PlanRefusal}
use Rattle.records.specs.Groups.{groups, worth, Grouped, Spells}
use Rattle.records.specs.Record.{record_of}
use Rattle.records.specs.Write.{Given, fields_of, shape_of, write_tests, written, Settles}
use Rattle.records.proofs.theory.Rows.{longest, called}
use Rattle.records.proofs.theory.Grouping.{groups_spell, groups_only, groups-shortest, groups_five as five-groups}
use Rattle.records.proofs.theory.Lengths.{record_most}
use Rattle.records.proofs.theory.Outcomes.{Fitting, passes, refused_by, recorded_by, refused-leaves, record_leaves}

-- ---- a number as groups of seven bits

-- the groups give the number back
pub groups-back : (n : ℕ) → worth (groups n) ≡ n
groups-back n = (groups_spell n).worth

-- and no other shortest form does
pub groups_exactly : (s : List ℕ) (n : ℕ) → Spells s n ↔ (s ≡ groups n)
groups_exactly s n = (groups_only, λ e. rw e (groups_spell n))

-- no form at all is shorter
pub none_shorter : (s : List ℕ) → Grouped s → length (groups (worth s)) ≤ length s
none_shorter s form = groups-shortest form

-- five groups serve 32 bits
pub groups_five : (n : ℕ) → n < 4294967296 → length (groups n) ≤ 5
groups_five n small = five-groups n small

-- ---- the answer

module _ (g : Given) (found : List ℕ) where
  -- a refusal is given exactly when its condition is the first that holds
  pub refused_exactly : (r : PlanRefusal) → ((written g found).answer ≡ Err r) ↔ FirstToHold (write_tests g found) r
  unfolding written
  refused_exactly r = refused_by (record_of (fields_of g)) found (write_tests g found) r

  -- and otherwise the record's length is answered
  pub else_written : (k : ℕ)
      → ((written g found).answer ≡ Ok k) ↔ (NoneHolds (write_tests g found) × (k ≡ length (record_of (fields_of g))))
  unfolding written
  else_written k = recorded_by (record_of (fields_of g)) found (write_tests g found) k

  -- a refusal leaves the output as found
  pub refusal-leaves : (r : PlanRefusal) → (written g found).answer ≡ Err r → (written g found).out ≡ found
  unfolding written
  refusal-leaves r e = refused-leaves (record_of (fields_of g)) found (write_tests g found) r e

  module _ (k : ℕ) (e : (written g found).answer ≡ Ok k) where
    fitting : Fitting g found
    fitting = passes g found ((else_written k).0 e).0

    long : length (record_of (fields_of g)) ≡ k
    long = sym ((else_written k).0 e).1

    -- what is written is a list that solves the board
    pub written-solves : Solves (shape_of (fields_of g)) g.board g.moves
    written-solves = fitting.solves

    -- within the ceiling that was given, which is a number of moves
    pub written-within : (ceiling : ℕ) → g.ceiling ≡ pos ceiling → length g.moves ≤ ceiling
    written-within ceiling is =
        let same : pos (fields_of g).ceiling ≡ pos ceiling = fitting.ceiling-is ∙ is in
        let whole : (fields_of g).ceiling ≡ ceiling = cc in
        omega (arith, fitting.within)

    -- with a weight in lowest terms
    pub written-lowest : CommonDivisor g.p g.q → ⊥
    written-lowest = fitting.lowest

    -- a record is at most 149 bytes
    pub record_at-most_149 : k ≤ 149
    record_at-most_149 = omega (arith, long, record_most (fields_of g) fitting.limited)

    -- the output begins with the record, and the rest stays
    pub record_begins : (written g found).out ≡ record_of (fields_of g) ++ drop k found
    unfolding written
    record_begins = record_leaves (record_of (fields_of g)) found (write_tests g found) k e

    pub record_in_front : take k (written g found).out ≡ record_of (fields_of g)
    record_in_front = ap (take k) record_begins ∙ take_at (record_of (fields_of g)) (drop k found) k long

    -- there was room for it
    pub record_fits : k ≤ length found
    record_fits = omega (arith, long, fitting.room)

-- one has 149
pub record_of_149 : (written longest (replicate 149 0)).answer ≡ Ok 149
record_of_149 = ap (λ answers. get_or answers 1 (Ok 0)) called

-- ---- nothing is left open

-- any two results that the contract allows are equal
pub one-result : (g : Given) (found : List ℕ) (answer other : Result ℕ PlanRefusal) (out others : List ℕ)
    → Settles (written g found) answer out → Settles (written g found) other others → (answer ≡ other) × (out ≡ others)
one-result g found answer other out others one two =
    (one.answers ∙ sym two.answers, one.leaves ∙ sym two.leaves)
