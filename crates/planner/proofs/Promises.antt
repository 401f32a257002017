-- What is promised of the whole answer of a call, in the order of the customer's conditions and demands. `answered c` is the answer and the
-- buffers as they are left; the call's contract says that the code gives exactly these (`call::plan`).
--     A    a ceiling below zero is never taken
--     B1   which answer is given, exactly when; what each leaves in the buffers; that nothing in them matters
--     B2   playing the plan reaches the goal, within the ceiling; the count of visits; what a spent budget means
--     B3   the plan's length against every legal list; what 10 and 9 mean; a ceiling that can't be met; no number of the search comes near
--          infinity
--     E5   what the test for 15 means, and that one fraction is taken as one weight
--     E7   the short call: its weight is taken, and what it promises of a plan's length
-- Proved in theory/, in Kept, Lowest and Lending. Assumes nothing.
use Prim.Native.Nat.{ℕ, ◌+◌, ◌*◌, ◌≤◌, ◌<◌}
use mathlib.Core.Path.{◌≡◌, refl, subst, sym, ◌∙◌}
use mathlib.Core.Bool.{true, false}
use mathlib.Core.List.{List}
use mathlib.Core.Logic.{◌↔◌, ◌⊎◌, inl}
use native.Mathlib.Nat.{le_of_mul-le-mul_left}
use lib.IntN.{ℤ, negsuc}
use lib.ListN.{length, take, drop}
use Rattle.board.specs.Board.{IsBoard}
use Rattle.board.specs.First.{first_of}
use Rattle.board.specs.Lists.{Solves}
use Rattle.board.specs.Tests.{FirstToHold, NoneHolds}
use Rattle.board.specs.Distance.{distance}
use Rattle.search.specs.Row.{infinity}
use Rattle.search.specs.Space.{boards}
use Rattle.search.specs.Search.{value, static, visit}
use Rattle.search.proofs.theory.Theory.{value-within}
use Rattle.search.proofs.code.BoardSpace.{board-laws}
use Rattle.planner.specs.declared.Plan.{Plan}
use Rattle.planner.specs.declared.Limit.TheVariants.{NotLowest}
use Rattle.planner.specs.declared.Refusal.{Refusal}
use Rattle.planner.specs.declared.Refusal.TheVariants.{Beyond, NoPlan, OutOfVisits, OddBoard}
use Rattle.planner.specs.Answer.{Answer}
use Rattle.std.specs.Prelude.{Ok, Err}
use Rattle.planner.specs.Limits.{ceiling_of, bad_weight, CommonDivisor, divides_both, shares_divisor}
use Rattle.planner.specs.Answer.{Call, Left, Settles, shape_of, weight_of, tests, cleared, answered}
use Rattle.planner.specs.Answer.{number, refusal_number, TestNumber, LateNumber, SearchNumber, visits}
use Rattle.planner.specs.Short.{short_weight, called_short}
use Rattle.planner.proofs.theory.Ways.{clear}
use Rattle.planner.proofs.theory.Kept.{ceiling-below_zero, given_exactly, else_searched, each_number, untouched-is, late_is}
use Rattle.planner.proofs.theory.Kept.{PlanMade, plan-made}
use Rattle.planner.proofs.theory.Kept.{visits-counted, Returned, no_plan-is, no_plan_means, OutOf, out-of-visits-is, budgeted}
use Rattle.planner.proofs.theory.Kept.{spent-before-plan, spent-before-none, at_once, odd-board_means, static-most, capped}
use Rattle.planner.proofs.theory.Divisors.{shares_exactly}
use Rattle.planner.proofs.theory.Lowest.{PastSeven, not-lowest-is, kept-lowest, kept_equal}
use Rattle.planner.proofs.theory.OddBoards.{OddAlone, nine_exactly}
use Rattle.planner.proofs.theory.Lending.{lending, SameAnswer, by_length}

module _ (c : Call) where
  -- ---- A

  -- with a ceiling below zero the answer is refusal 5 or an earlier one, and no plan
  pub below_zero : (n : ℕ) → c.ceiling ≡ negsuc n → (1 ≤ number (answered c).answer) × (number (answered c).answer ≤ 5)
  below_zero = ceiling-below_zero c

  -- ---- B1: which answer is given

  -- each of the refusals 1 to 9 and 15 is given exactly when its test holds and no earlier one does
  pub refused_exactly : (r : Refusal) → TestNumber (refusal_number r) → ((answered c).answer ≡ Err r) ↔ FirstToHold (tests c) r
  refused_exactly = given_exactly c

  -- 10 exactly when none of them holds and the search returns infinity; v is the count of visits
  pub no_plan_exactly : (v : ℕ) → ((answered c).answer ≡ Err (NoPlan v)) ↔ Returned c v
  no_plan_exactly = no_plan-is c

  -- 11 exactly when none of them holds and the search is spent; v is the budget
  pub out-of-visits_exactly : (v : ℕ) → ((answered c).answer ≡ Err (OutOfVisits v)) ↔ OutOf c v
  out-of-visits_exactly = out-of-visits-is c

  -- 9 exactly when tests 1 to 8 and 15 pass and the board is odd (refused_exactly, spelled out for the reachability test by itself)
  pub odd-board_exactly : (number (answered c).answer ≡ 9) ↔ OddAlone c
  odd-board_exactly = nine_exactly c

  -- where none of them holds the answer is a plan, 10 or 11
  pub else_a_search : NoneHolds (tests c) → SearchNumber (number (answered c).answer)
  else_a_search = else_searched c

  -- no answer has another number: 0, or one of the twelve refusals 1 to 11 and 15
  pub no_other-number : TestNumber (number (answered c).answer) ⊎ SearchNumber (number (answered c).answer)
  no_other-number = each_number c

  -- 15 comes directly after 7: exactly when none of 1 to 7 holds and some number above 1 divides both p and q
  pub not-lowest_exactly : ((answered c).answer ≡ Err (Beyond NotLowest)) ↔ PastSeven c
  not-lowest_exactly = not-lowest-is c

  -- a weight that is taken is in lowest terms
  pub taken-lowest : NoneHolds (tests c) → CommonDivisor c.p c.q → ⊥
  taken-lowest passed = kept-lowest (clear c passed).limits

  -- ---- B1: the buffers

  -- 1 to 9 and 15
  pub early_refusals_touch_nothing : TestNumber (number (answered c).answer)
      → ((answered c).moves ≡ c.moves) × ((answered c).table ≡ c.table)
  early_refusals_touch_nothing = untouched-is c

  -- 10 and 11
  pub late_refusals_clear : LateNumber (number (answered c).answer) → ((answered c).moves ≡ c.moves) × ((answered c).table ≡ cleared c)
  late_refusals_clear = late_is c

  -- with anything else in buffers of the same lengths the answer is the same, and so are the moves of a plan; the other moves stay
  pub buffers-never_matter : (moves table : List ℕ) → length moves ≡ length c.moves → length table ≡ length c.table
      → SameAnswer (answered c) moves (answered (lending c moves table))
  buffers-never_matter = by_length c

  module _ (pl : Plan) (planned : (answered c).answer ≡ Ok pl) where
    made : PlanMade c pl
    made = plan-made c pl planned

    pub plan-clears : (answered c).table ≡ cleared c
    plan-clears = made.clears

    -- the move bytes past the plan are as they were
    pub plan-fills : drop pl.length (answered c).moves ≡ drop pl.length c.moves
    plan-fills = made.fills

    -- ---- B2, of a plan

    -- playing the plan, the first of the move bytes, reaches the goal
    pub plan-solves : Solves (shape_of c) c.board (take pl.length (answered c).moves)
    plan-solves = made.solves

    pub plan-within-ceiling : pl.length ≤ ceiling_of c.ceiling
    plan-within-ceiling = made.within

    pub plan-visits : (1 ≤ pl.visits) × (pl.visits ≤ c.budget)
    plan-visits = made.counted

    -- ---- B3, of a plan

    -- q times its length is at most p times the length of any legal list to the goal, longer than the ceiling and taking back or not
    pub plan-near : (ds : List ℕ) → Solves (shape_of c) c.board ds → c.q * pl.length ≤ c.p * length ds
    plan-near = made.near

    -- at p = q none is shorter
    pub plan-shortest : c.p ≡ c.q → (ds : List ℕ) → Solves (shape_of c) c.board ds → pl.length ≤ length ds
    plan-shortest e ds v =
        le_of_mul-le-mul_left (subst (λ (k : ℕ). c.q * pl.length ≤ k * length ds) e (plan-near ds v)) made.positive

  -- ---- B2, of every answer

  pub visits-within-budget : visits (answered c).answer ≤ c.budget
  visits-within-budget = visits-counted c

  -- where 11 is given, a plan or a 10 at any other budget takes more visits than this one
  module _ (v : ℕ) (out : (answered c).answer ≡ Err (OutOfVisits v)) (budget : ℕ) where
    pub spent_needs_more-to-plan : (pl : Plan) → (answered (budgeted c budget)).answer ≡ Ok pl → v < pl.visits
    spent_needs_more-to-plan = spent-before-plan c v out budget

    pub spent_needs_more-to_refuse : (w : ℕ) → (answered (budgeted c budget)).answer ≡ Err (NoPlan w) → v < w
    spent_needs_more-to_refuse = spent-before-none c v out budget

  -- ---- B3, of refusals 10 and 9

  -- refusal 10: no legal list of at most `ceiling` moves leads to the goal
  pub no_plan-within : (v : ℕ) → (answered c).answer ≡ Err (NoPlan v) → (ds : List ℕ) → Solves (shape_of c) c.board ds
      → ceiling_of c.ceiling < length ds
  no_plan-within = no_plan_means c

  -- a ceiling below the board's distance can't be met: 10 with one visit, at every budget
  pub too_far_at-once : NoneHolds (tests c) → ceiling_of c.ceiling < distance (shape_of c) c.board
      → (answered c).answer ≡ Err (NoPlan 1)
  too_far_at-once = at_once c

  -- refusal 9: none of any length does
  pub odd-board-never : (answered c).answer ≡ Err OddBoard → (ds : List ℕ) → Solves (shape_of c) c.board ds → ⊥
  odd-board-never = odd-board_means c

  -- ---- no number of the search but infinity comes near 65,535

  module _ (passed : NoneHolds (tests c)) (b : List ℕ) (board : IsBoard (shape_of c) b) where
    -- f of a board at any depth up to the ceiling is at most 13,440
    pub f-small : (g : ℕ) → g ≤ ceiling_of c.ceiling → static (boards (shape_of c)) (weight_of c) g b ≤ 13440
    f-small = static-most c (clear c passed) b board

    -- a visit that is handed a stored value of at most 13,440 returns such a value or infinity
    pub values-small : (deeper g last stored bound left v left' : ℕ) → deeper + g ≡ ceiling_of c.ceiling → stored ≤ 13440
        → visit (boards (shape_of c)) (static (boards (shape_of c)) (weight_of c)) (ceiling_of c.ceiling) deeper g b last stored bound left
        ≡ value v left'
        → (v ≤ 13440) ⊎ (v ≡ infinity)
    values-small deeper g last stored bound left v left' depth small run =
        let clean = clear c passed in
        value-within (boards (shape_of c)) (IsBoard (shape_of c)) (board-laws (shape_of c) clean.shape) (ceiling_of c.ceiling) 13440
        (static (boards (shape_of c)) (weight_of c)) (capped c clean) g last b board stored (inl small) deeper bound left depth run

-- ---- E5: one wish, one weight

-- the test for 15 holds exactly where some number above 1 divides both
pub shares_divisor_exactly : (p q : ℕ) → (shares_divisor p q ≡ true) ↔ CommonDivisor p q
shares_divisor_exactly = shares_exactly

-- two weights that are taken and are the same fraction are equal
pub same_fraction : (c d : Call) → NoneHolds (tests c) → NoneHolds (tests d) → c.p * d.q ≡ d.p * c.q → (c.p ≡ d.p) × (c.q ≡ d.q)
same_fraction c d passed passed' = kept_equal (clear c passed).limits (clear d passed').limits

-- ---- the call's contract allows one result

-- any two answers, with the buffers as they are left, that settle the same call are equal
pub one-result : (l : Left) (a b : Answer) (moves moves' table table' : List ℕ) → Settles l a moves table → Settles l b moves' table'
    → (a ≡ b) × (moves ≡ moves') × (table ≡ table')
one-result l a b moves moves' table table' s u =
    (s.answer ∙ sym u.answer, s.moves ∙ sym u.moves, s.table ∙ sym u.table)

-- ---- E7: the short call

-- its weight passes tests 7 and 15
pub short-weight-taken : (bad_weight short_weight.p short_weight.q ≡ false) × (shares_divisor short_weight.p short_weight.q ≡ false)
unfolding bad_weight divides_both shares_divisor first_of
short-weight-taken = (refl, refl)

-- twice the plan's length is at most three times that of any legal list to the goal
module _ (width height : ℕ) (board : List ℕ) (ceiling : ℤ) (budget : ℕ) (moves table : List ℕ) where
  abbrev shortly : Call
  shortly = called_short width height board ceiling budget moves table

  pub short-near : (pl : Plan) → (answered shortly).answer ≡ Ok pl → (ds : List ℕ) → Solves (shape_of shortly) board ds
      → 2 * pl.length ≤ 3 * length ds
  short-near = plan-near shortly
