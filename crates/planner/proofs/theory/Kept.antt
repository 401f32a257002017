-- The proofs of the promises (Promises), each from what the answer was made from and from the theory of the search. First legal lists as
-- the search's space has them, then what a search that ran tells, then the promises in the order of Promises. Assumes nothing.
use Prim.Native.Nat.{ℕ, ◌*◌, ◌-◌, ◌≤◌, ◌<◌}
use mathlib.Core.Path.{◌≡◌, refl, sym, ap, subst, ◌∙◌}
use mathlib.Core.Bool.{true, false, true≢false}
use mathlib.Core.List.{List, ◌++◌}
use mathlib.Core.Logic.{◌↔◌, ◌⊎◌, inl, inr}
use native.Mathlib.Nat.{mul-le-mul}
use native.Mathlib.Omega.{arith}
use lib.IntN.{negsuc}
use lib.ListN.{length, take, drop}
use lib.Seq.{take-append_seam, drop-append_seam}
use Rattle.board.specs.declared.Shape.{Shape}
use Rattle.board.specs.Shape.{GoodShape}
use Rattle.board.specs.Board.{IsBoard, is_goal}
use Rattle.board.specs.Lists.{Solves, end_board}
use Rattle.board.specs.Tests.{FirstToHold, here, later, NoneHolds, past}
use Rattle.board.specs.Distance.{distance}
use Rattle.board.specs.Parity.{is_odd}
use Rattle.board.proofs.Laws.{is_goal-sound, is_goal-complete, list_board, board-of, odd-never_solved, distance-at-most_90}
use Rattle.search.specs.Row.{infinity}
use Rattle.search.specs.Space.{boards}
use Rattle.search.specs.Search.{Outcome, found, value, spent, static}
use Rattle.search.proofs.theory.Laws.{Laws, Reaches}
use Rattle.search.proofs.theory.Fair.{Fair, static-fair}
use Rattle.search.proofs.theory.Limits.{Capped}
use Rattle.search.proofs.theory.Theory.{plan-reaches, plan-within, plan-close, value_beyond, value_infinite, plan_counts}
use Rattle.search.proofs.theory.Theory.{spent-plan, spent-value, above-at-once}
use Rattle.search.proofs.code.BoardSpace.{board-laws, passed, passes}
use Rattle.planner.specs.declared.Plan.{Plan}
use Rattle.planner.specs.declared.Limit.{Limit}
use Rattle.planner.specs.declared.Refusal.{Refusal}
use Rattle.planner.specs.declared.Refusal.TheVariants.{Board, Beyond, ShortBuffer, OddBoard, NoPlan, OutOfVisits}
use Rattle.planner.specs.Answer.{Answer}
use Rattle.std.specs.Prelude.{Ok, Err}
use Rattle.planner.specs.Limits.{bad_ceiling, ceiling_of, limit_tests, limit_number}
use Rattle.planner.specs.Answer.{Call, Left, shape_of, weight_of, cleared, last_tests, tests, searched, untouched, concluded, answered}
use Rattle.planner.specs.Answer.{called, refusal_number, TestNumber, LateNumber, SearchNumber, number, visits}
use Rattle.planner.proofs.theory.Passing.{GoodWeight, weight-passes, ceiling-passes, budget-passes}
use Rattle.planner.proofs.theory.Ways.{Clear, clear, Refusing, by_board, by_limit, by_last, refusing}
use Rattle.planner.proofs.theory.Ways.{fault-number, limit-number, early_number, apart, refusal-positive}
use Rattle.planner.proofs.theory.Ways.{refused_by, ran_to, Way, refused, ran, way, PlanFrom, TestRefused, NoPlanFrom, SpentFrom}
use Rattle.planner.proofs.theory.Ways.{From, made-from}

-- ---- legal lists to the goal, as the search's space has them

reaches-solves : (s : Shape) (b ms : List ℕ) → GoodShape s → IsBoard s b → Reaches (boards s) b ms → Solves s b ms
reaches-solves s b ms good board r =
    record {
      plays = r.plays;
      reaches =
          is_goal-sound s (end_board s b ms) (list_board s good ms b board r.plays).long
          (passed (is_goal s (end_board s b ms)) r.arrives);
    }

solves-reaches : (s : Shape) (b ms : List ℕ) → Solves s b ms → Reaches (boards s) b ms
solves-reaches s b ms v = record { plays = v.plays; arrives = passes (is_goal-complete s (end_board s b ms) v.reaches) }

-- ---- what a search that ran tells

module _ (c : Call) (clean : Clear c) where
  laws : Laws (boards (shape_of c)) (IsBoard (shape_of c))
  laws = board-laws (shape_of c) clean.shape

  good-weight : GoodWeight c.p c.q
  good-weight = weight-passes c.p c.q clean.limits.weight_ok

  low-ceiling : ceiling_of c.ceiling ≤ 120
  low-ceiling = ceiling-passes c.ceiling clean.limits.ceiling_ok

  fair : Fair (boards (shape_of c)) (IsBoard (shape_of c)) (weight_of c) (ceiling_of c.ceiling) (static (boards (shape_of c)) (weight_of c))
  fair =
      static-fair (boards (shape_of c)) (IsBoard (shape_of c)) laws (weight_of c) (ceiling_of c.ceiling) good-weight.order
      (omega (arith, mul-le-mul good-weight.most low-ceiling))

  -- no static value is above 13,440
  pub static-most : (b : List ℕ) → IsBoard (shape_of c) b → (g : ℕ) → g ≤ ceiling_of c.ceiling
      → static (boards (shape_of c)) (weight_of c) g b ≤ 13440
  unfolding static
  static-most b board g low =
      omega (
        arith,
        mul-le-mul good-weight.order low,
        mul-le-mul good-weight.most (distance-at-most_90 (shape_of c) b clean.shape board),
        mul-le-mul good-weight.most low-ceiling,
        good-weight.order,
      )

  pub capped : Capped (boards (shape_of c)) (IsBoard (shape_of c)) (ceiling_of c.ceiling) 13440 (static (boards (shape_of c)) (weight_of c))
  capped = record { finite = omega arith; within = λ g b board low. inl (static-most b board g low) }

  module _ (ms : List ℕ) (left : ℕ) (run : searched c ≡ found ms left) where
    found-solves : Solves (shape_of c) c.board ms
    unfolding searched
    found-solves =
        reaches-solves (shape_of c) c.board ms clean.shape clean.board
        (plan-reaches _ _ laws _ _ _ fair c.board clean.board c.budget run)

    pub found_within : length ms ≤ ceiling_of c.ceiling
    unfolding searched
    found_within = plan-within _ _ laws _ _ _ fair c.board clean.board c.budget run

    found-near : (ds : List ℕ) → Solves (shape_of c) c.board ds → c.q * length ms ≤ c.p * length ds
    unfolding searched
    found-near ds v =
        plan-close _ _ laws _ _ _ fair c.board clean.board c.budget run ds (solves-reaches (shape_of c) c.board ds v)

  module _ (v left : ℕ) (run : searched c ≡ value v left) where
    value_none : (ds : List ℕ) → Solves (shape_of c) c.board ds → ceiling_of c.ceiling < length ds
    unfolding searched
    value_none ds w =
        value_beyond _ _ laws _ _ _ fair c.board clean.board c.budget run ds (solves-reaches (shape_of c) c.board ds w)

    value-is_infinite : v ≡ infinity
    unfolding searched
    value-is_infinite = value_infinite _ _ laws _ _ _ fair c.board clean.board c.budget capped run

-- ---- A

pub ceiling-below_zero : (c : Call) (n : ℕ) → c.ceiling ≡ negsuc n
    → (1 ≤ number (answered c).answer) × (number (answered c).answer ≤ 5)
unfolding bad_ceiling limit_tests
ceiling-below_zero c n below = go (way c)
  where
    not_taken : bad_ceiling c.ceiling ≡ false → ⊥
    not_taken e = true≢false (sym (ap bad_ceiling below) ∙ e)

    first_limit : {l : Limit} → FirstToHold (limit_tests c.ceiling c.budget c.p c.q) l → limit_number l ≤ 5
    first_limit (here five) = omega arith
    first_limit (later five rest) = absurd (not_taken five)

    no_limit : NoneHolds (limit_tests c.ceiling c.budget c.p c.q) → ⊥
    no_limit (past five rest) = not_taken five

    low : {r : Refusal} → Refusing c r → refusal_number r ≤ 5
    low (by_board {f} first) = omega (arith, fault-number f)
    low (by_limit sound first) = first_limit first
    low (by_last sound kept first) = absurd (no_limit kept)

    go : Way c → (1 ≤ number (answered c).answer) × (number (answered c).answer ≤ 5)
    go (refused {why} first w) =
        let is : number (answered c).answer ≡ refusal_number why = ap (λ (l : Left). number l.answer) w in
        (omega (arith, refusal-positive why), omega (arith, low (refusing c first)))
    go (ran passed o run w) = absurd (not_taken (clear c passed).limits.ceiling_ok)

-- ---- B1

-- each refusal by a test is given exactly when its test is the first that holds
pub given_exactly : (c : Call) (r : Refusal) → TestNumber (refusal_number r) → ((answered c).answer ≡ Err r) ↔ FirstToHold (tests c) r
given_exactly c r early = (λ e. first r early (made-from c e), λ first. ap (λ (l : Left). l.answer) (refused_by c first))
  where
    first : (r' : Refusal) → TestNumber (refusal_number r') → From c (Err r') → FirstToHold (tests c) r'
    first (Board f) h it = it.first
    first (Beyond l) h it = it.first
    first ShortBuffer h it = it.first
    first OddBoard h it = it.first
    first (NoPlan v) h it = absurd (apart h (inr (omega arith)))
    first (OutOfVisits v) h it = absurd (apart h (inr (omega arith)))

module _ (c : Call) where
  -- which number a search gives
  ended-number : (o : Outcome) → answered c ≡ concluded c o → SearchNumber (number (answered c).answer)
  unfolding concluded
  ended-number (found ms left) w = inl (ap (λ (l : Left). number l.answer) w)
  ended-number (value v left) w = inr (omega (arith, ap (λ (l : Left). number l.answer) w))
  ended-number spent w = inr (omega (arith, ap (λ (l : Left). number l.answer) w))

  -- where no test holds the answer is a plan, 10 or 11
  pub else_searched : NoneHolds (tests c) → SearchNumber (number (answered c).answer)
  else_searched passed = ended-number (searched c) (ran_to c passed refl)

  -- a test gives 1 to 9 or 15
  test-number : {r : Refusal} → FirstToHold (tests c) r → answered c ≡ untouched c r → TestNumber (number (answered c).answer)
  test-number first w =
      subst TestNumber (sym (ap (λ (l : Left). number l.answer) w)) (early_number c (refusing c first))

  -- every answer has one of these numbers
  pub each_number : TestNumber (number (answered c).answer) ⊎ SearchNumber (number (answered c).answer)
  each_number = go (way c)
    where
      go : Way c → TestNumber (number (answered c).answer) ⊎ SearchNumber (number (answered c).answer)
      go (refused first w) = inl (test-number first w)
      go (ran passed o run w) = inr (ended-number o w)

  pub untouched-is : TestNumber (number (answered c).answer) → ((answered c).moves ≡ c.moves) × ((answered c).table ≡ c.table)
  untouched-is early = go (way c)
    where
      go : Way c → ((answered c).moves ≡ c.moves) × ((answered c).table ≡ c.table)
      go (refused first w) = (ap (λ (l : Left). l.moves) w, ap (λ (l : Left). l.table) w)
      go (ran passed o run w) = absurd (apart early (ended-number o w))

  pub late_is : LateNumber (number (answered c).answer) → ((answered c).moves ≡ c.moves) × ((answered c).table ≡ cleared c)
  unfolding concluded
  late_is late = go (way c)
    where
      go : Way c → ((answered c).moves ≡ c.moves) × ((answered c).table ≡ cleared c)
      go (refused first w) = absurd (apart (test-number first w) (inr late))
      go (ran passed (found ms left) run w) = absurd (omega (arith, ap (λ (l : Left). number l.answer) w))
      go (ran passed (value v left) run w) = (ap (λ (l : Left). l.moves) w, ap (λ (l : Left). l.table) w)
      go (ran passed spent run w) = (ap (λ (l : Left). l.moves) w, ap (λ (l : Left). l.table) w)

-- ---- B2 and B3, of a plan

pub record PlanMade (c : Call) (pl : Plan) : Type 0 where
  pub fills : drop pl.length (answered c).moves ≡ drop pl.length c.moves
  pub clears : (answered c).table ≡ cleared c
  pub solves : Solves (shape_of c) c.board (take pl.length (answered c).moves)
  pub within : pl.length ≤ ceiling_of c.ceiling
  pub counted : (1 ≤ pl.visits) × (pl.visits ≤ c.budget)
  pub near : (ds : List ℕ) → Solves (shape_of c) c.board ds → c.q * pl.length ≤ c.p * length ds
  pub positive : 1 ≤ c.q

found-made : (c : Call) → Clear c → (ms : List ℕ) (left : ℕ) → searched c ≡ found ms left → answered c ≡ concluded c (found ms left)
    → PlanMade c (record { length = length ms; visits = c.budget - left })
unfolding concluded searched
found-made c clean ms left run w =
    record {
      fills = ap (drop (length ms)) moves_are ∙ drop-append_seam ms (drop (length ms) c.moves);
      clears = ap (λ (l : Left). l.table) w;
      solves =
          subst (Solves (shape_of c) c.board) (sym (ap (take (length ms)) moves_are ∙ take-append_seam ms (drop (length ms) c.moves)))
          (found-solves c clean ms left run);
      within = found_within c clean ms left run;
      counted = omega (arith, plan_counts _ _ _ _ _ run);
      near = found-near c clean ms left run;
      positive = (good-weight c clean).some;
    }
  where
    moves_are : (answered c).moves ≡ ms ++ drop (length ms) c.moves
    moves_are = ap (λ (l : Left). l.moves) w

pub plan-made : (c : Call) (pl : Plan) → (answered c).answer ≡ Ok pl → PlanMade c pl
plan-made c pl e =
    let from = made-from c e in
    subst (PlanMade c) (sym from.is) (found-made c (clear c from.passed) from.moves from.left from.run from.all)

-- ---- B2, of every answer

pub visits-counted : (c : Call) → visits (answered c).answer ≤ c.budget
visits-counted c = go (answered c).answer refl
  where
    go : (a : Answer) → (answered c).answer ≡ a → visits a ≤ c.budget
    go (Ok pl) e = (plan-made c pl e).counted.1
    go (Err (Board f)) e = omega arith
    go (Err (Beyond l)) e = omega arith
    go (Err ShortBuffer) e = omega arith
    go (Err OddBoard) e = omega arith
    go (Err (NoPlan v)) e = let from : NoPlanFrom c v = made-from c e in omega (arith, from.is)
    go (Err (OutOfVisits v)) e = let from : SpentFrom c v = made-from c e in omega (arith, from.is)

-- ---- 10 and 11

-- 10 exactly where no test holds and the search returns infinity
pub record Returned (c : Call) (v : ℕ) : Type 0 where
  pub passed : NoneHolds (tests c)
  pub left : ℕ
  pub run : searched c ≡ value infinity left
  pub count : v ≡ c.budget - left

pub no_plan-is : (c : Call) (v : ℕ) → ((answered c).answer ≡ Err (NoPlan v)) ↔ Returned c v
unfolding concluded
no_plan-is c v = (given, gives)
  where
    given : (answered c).answer ≡ Err (NoPlan v) → Returned c v
    given e =
        let from : NoPlanFrom c v = made-from c e in
        let infinite = value-is_infinite c (clear c from.passed) from.returned from.left from.run in
        record {
          passed = from.passed;
          left = from.left;
          run = from.run ∙ ap (λ (x : ℕ). value x from.left) infinite;
          count = from.is;
        }

    gives : Returned c v → (answered c).answer ≡ Err (NoPlan v)
    gives it = ap (λ (l : Left). l.answer) (ran_to c it.passed it.run) ∙ ap (λ (n : ℕ). Err (NoPlan n)) (sym it.count)

pub no_plan_means : (c : Call) (v : ℕ) → (answered c).answer ≡ Err (NoPlan v) → (ds : List ℕ) → Solves (shape_of c) c.board ds
    → ceiling_of c.ceiling < length ds
no_plan_means c v e =
    let from : NoPlanFrom c v = made-from c e in
    value_none c (clear c from.passed) from.returned from.left from.run

-- 10 with one visit where the board's distance is above the ceiling
pub at_once : (c : Call) → NoneHolds (tests c) → ceiling_of c.ceiling < distance (shape_of c) c.board
    → (answered c).answer ≡ Err (NoPlan 1)
unfolding concluded searched
at_once c passed far =
    let clean = clear c passed in
    let some = (budget-passes c.budget clean.limits.budget_ok).0 in
    let one : c.budget - (c.budget - 1) ≡ 1 = omega arith in
    ap (λ (l : Left). l.answer)
    (ran_to c passed (above-at-once _ _ (laws c clean) _ (ceiling_of c.ceiling) c.board clean.board far c.budget some))
    ∙ ap (λ (n : ℕ). Err (NoPlan n)) one

-- 11 exactly where no test holds and the search is spent
pub record OutOf (c : Call) (v : ℕ) : Type 0 where
  pub passed : NoneHolds (tests c)
  pub run : searched c ≡ spent
  pub count : v ≡ c.budget

pub out-of-visits-is : (c : Call) (v : ℕ) → ((answered c).answer ≡ Err (OutOfVisits v)) ↔ OutOf c v
unfolding concluded
out-of-visits-is c v = (given, gives)
  where
    given : (answered c).answer ≡ Err (OutOfVisits v) → OutOf c v
    given e = let from : SpentFrom c v = made-from c e in record { passed = from.passed; run = from.run; count = from.is }

    gives : OutOf c v → (answered c).answer ≡ Err (OutOfVisits v)
    gives it = ap (λ (l : Left). l.answer) (ran_to c it.passed it.run) ∙ ap (λ (n : ℕ). Err (OutOfVisits n)) (sym it.count)

-- the same call with another budget
abbrev pub budgeted : Call → ℕ → Call
budgeted c budget = called c.width c.height c.board c.ceiling budget c.p c.q c.moves c.table

-- where the search is spent, it makes more visits than the budget at every budget at which it ends
module _ (c : Call) (v : ℕ) (out : (answered c).answer ≡ Err (OutOfVisits v)) (budget : ℕ) where
  spent-here : SpentFrom c v
  spent-here = made-from c out

  pub spent-before-plan : (pl : Plan) → (answered (budgeted c budget)).answer ≡ Ok pl → v < pl.visits
  unfolding searched
  spent-before-plan pl e =
      let from : PlanFrom (budgeted c budget) pl = made-from (budgeted c budget) e in
      let more = spent-plan _ _ _ _ c.budget budget spent-here.run from.run in
      let is : pl.visits ≡ budget - from.left = ap (λ (x : Plan). x.visits) from.is in
      omega (arith, spent-here.is)

  pub spent-before-none : (w : ℕ) → (answered (budgeted c budget)).answer ≡ Err (NoPlan w) → v < w
  unfolding searched
  spent-before-none w e =
      let from : NoPlanFrom (budgeted c budget) w = made-from (budgeted c budget) e in
      let more = spent-value _ _ _ _ c.budget budget spent-here.run from.run in
      omega (arith, spent-here.is, from.is)

-- ---- 9

pub odd-board_means : (c : Call) → (answered c).answer ≡ Err OddBoard → (ds : List ℕ) → Solves (shape_of c) c.board ds → ⊥
unfolding last_tests
odd-board_means c e ds v =
    let from : TestRefused c OddBoard = made-from c e in
    go (refusing c from.first) refl
  where
    odd : {r : Refusal} → FirstToHold (last_tests c) r → refusal_number r ≡ 9 → is_odd (shape_of c) c.board ≡ true
    odd (here eight) is = absurd (omega arith)
    odd (later eight (here nine)) is = nine
    odd {r = r} (later eight (later _ x13)) is = elim x13 [ ]

    go : {r : Refusal} → Refusing c r → refusal_number r ≡ 9 → ⊥
    go (by_board {f} first) is = omega (arith, fault-number f)
    go (by_limit {l} sound first) is = omega (arith, limit-number l)
    go (by_last sound kept first) is =
        let good = board-of c.width c.height c.board sound in
        odd-never_solved (shape_of c) c.board good.0 good.1 (odd first is) ds v
