-- The ways that a call's answer can come about: the first test that holds refuses, or none holds and the search ran. In this order: what
-- the tests tell where none holds, and which numbers they give; the two ways; what each kind of answer was made from.
-- Assumes nothing.
use Prim.Native.Nat.{ℕ, ◌-◌, ◌≤◌}
use mathlib.Core.Path.{◌≡◌, refl, ap, subst, ◌∙◌}
use mathlib.Core.Bool.{false}
use mathlib.Core.List.{List, ◌++◌}
use mathlib.Core.Logic.{◌≢◌, inl, inr}
use mathlib.Core.Option.{Option, none, some}
use native.Mathlib.Omega.{arith}
use lib.ListN.{length}
use Rattle.board.specs.declared.Fault.{Fault}
use Rattle.board.specs.declared.Fault.TheVariants.{BadShape, BadLength, TooLarge, Repeated}
use Rattle.board.specs.Shape.{GoodShape}
use Rattle.board.specs.Board.{IsBoard}
use Rattle.board.specs.Tests.{first_refusal, FirstToHold, here, later, NoneHolds, end, past, under}
use Rattle.board.specs.Faults.{fault_tests, fault_number}
use Rattle.board.specs.Parity.{is_odd}
use Rattle.board.proofs.Laws.{board-of, first_means, first-given, none_means, none-given, first-split, none-split, Split, front, behind}
use Rattle.search.specs.Search.{Outcome, found, value, spent}
use Rattle.planner.specs.declared.Plan.{Plan}
use Rattle.planner.specs.declared.Limit.{Limit}
use Rattle.planner.specs.declared.Limit.TheVariants.{BadCeiling, BadBudget, BadWeight, NotLowest}
use Rattle.planner.specs.declared.Refusal.{Refusal}
use Rattle.planner.specs.declared.Refusal.TheVariants.{Board, Beyond, ShortBuffer, OddBoard, NoPlan, OutOfVisits}
use Rattle.planner.specs.Answer.{Answer}
use Rattle.std.specs.Prelude.{Ok, Err}
use Rattle.planner.specs.Limits.{ceiling_of, limit_tests, limit_number}
use Rattle.planner.specs.Answer.{Call, Left, shape_of, short_buffer, last_tests, tests, searched, untouched, concluded, after_tests}
use Rattle.planner.specs.Answer.{answered, refusal_number, TestNumber, SearchNumber}
use Rattle.planner.proofs.theory.Passing.{Kept, limits-kept}

-- ---- the tests

-- no test holds
pub record Clear (c : Call) : Type 0 where
  pub shape : GoodShape (shape_of c)
  pub board : IsBoard (shape_of c) c.board
  pub limits : Kept c.ceiling c.budget c.p c.q
  pub buffers : short_buffer (ceiling_of c.ceiling) (length c.moves) (length c.table) ≡ false
  pub parity : is_odd (shape_of c) c.board ≡ false

pub clear : (c : Call) → NoneHolds (tests c) → Clear c
unfolding tests last_tests
clear c passed =
    let first = none-split Board (fault_tests c.width c.height c.board) passed in
    let then = none-split Beyond (limit_tests c.ceiling c.budget c.p c.q) first.1 in
    go (board-of c.width c.height c.board first.0) (limits-kept c.ceiling c.budget c.p c.q then.0) then.1
  where
    go : GoodShape (shape_of c) × IsBoard (shape_of c) c.board → Kept c.ceiling c.budget c.p c.q
        → NoneHolds (last_tests c) → Clear c
    go good limits (past eight (past nine end)) =
        record { shape = good.0; board = good.1; limits = limits; buffers = eight; parity = nine }

-- the test that refuses: one of the board's, one of the limits', or one of the last two
pub data Refusing (c : Call) : Refusal → Type 0 where
  by_board : {f : Fault} → FirstToHold (fault_tests c.width c.height c.board) f → Refusing c (Board f)
  by_limit : {l : Limit} → NoneHolds (fault_tests c.width c.height c.board)
      → FirstToHold (limit_tests c.ceiling c.budget c.p c.q) l → Refusing c (Beyond l)
  by_last : {r : Refusal} → NoneHolds (fault_tests c.width c.height c.board)
      → NoneHolds (limit_tests c.ceiling c.budget c.p c.q) → FirstToHold (last_tests c) r → Refusing c r

pub refusing : (c : Call) {r : Refusal} → FirstToHold (tests c) r → Refusing c r
unfolding tests
refusing c first = go (first-split Board (fault_tests c.width c.height c.board) first)
  where
    then : {r : Refusal} → NoneHolds (fault_tests c.width c.height c.board)
        → Split Beyond (limit_tests c.ceiling c.budget c.p c.q) (last_tests c) r → Refusing c r
    then passed (front f) = by_limit passed f
    then passed (behind kept f) = by_last passed kept f

    go : {r : Refusal} → Split Board (fault_tests c.width c.height c.board)
        (under Beyond (limit_tests c.ceiling c.budget c.p c.q) ++ last_tests c) r → Refusing c r
    go (front f) = by_board f
    go (behind passed f) = then passed (first-split Beyond (limit_tests c.ceiling c.budget c.p c.q) f)

pub fault-number : (f : Fault) → (1 ≤ fault_number f) × (fault_number f ≤ 4)
fault-number BadShape = omega arith
fault-number BadLength = omega arith
fault-number (TooLarge i) = omega arith
fault-number (Repeated i) = omega arith

pub limit-number : (l : Limit)
    → (5 ≤ limit_number l) × (limit_number l ≤ 15) × (limit_number l ≢ 9) × (limit_number l ≢ 10) × (limit_number l ≢ 11)
limit-number BadCeiling = (omega arith, omega arith, λ e. omega arith, λ e. omega arith, λ e. omega arith)
limit-number BadBudget = (omega arith, omega arith, λ e. omega arith, λ e. omega arith, λ e. omega arith)
limit-number BadWeight = (omega arith, omega arith, λ e. omega arith, λ e. omega arith, λ e. omega arith)
limit-number NotLowest = (omega arith, omega arith, λ e. omega arith, λ e. omega arith, λ e. omega arith)

pub fault_early : (f : Fault) → TestNumber (fault_number f)
fault_early f = inl (omega (arith, fault-number f))

pub limit_early : (l : Limit) → TestNumber (limit_number l)
limit_early BadCeiling = inl (omega arith)
limit_early BadBudget = inl (omega arith)
limit_early BadWeight = inl (omega arith)
limit_early NotLowest = inr refl

pub last-number : (c : Call) {r : Refusal} → FirstToHold (last_tests c) r → (8 ≤ refusal_number r) × (refusal_number r ≤ 9)
unfolding last_tests
last-number c (here eight) = omega arith
last-number c (later eight (here nine)) = omega arith
last-number c {r = r} (later eight (later _ x12)) = elim x12 [ ]

-- what a test gives is one of 1 to 9, or 15
pub early_number : (c : Call) {r : Refusal} → Refusing c r → TestNumber (refusal_number r)
early_number c (by_board {f} first) = fault_early f
early_number c (by_limit {l} passed first) = limit_early l
early_number c (by_last passed kept first) = inl (omega (arith, last-number c first))

-- no number is both a test's and the search's
pub apart : {k : ℕ} → TestNumber k → SearchNumber k → ⊥
apart (inl early) (inl done) = omega arith
apart (inl early) (inr late) = omega arith
apart (inr fifteen) (inl done) = omega arith
apart (inr fifteen) (inr late) = omega arith

-- only a plan has number 0
pub refusal-positive : (r : Refusal) → 1 ≤ refusal_number r
refusal-positive (Board f) = (fault-number f).0
refusal-positive (Beyond l) = omega (arith, limit-number l)
refusal-positive ShortBuffer = omega arith
refusal-positive OddBoard = omega arith
refusal-positive (NoPlan v) = omega arith
refusal-positive (OutOfVisits v) = omega arith

-- ---- the two ways

pub data Way (c : Call) : Type 0 where
  refused : {why : Refusal} → FirstToHold (tests c) why → answered c ≡ untouched c why → Way c
  ran : NoneHolds (tests c) → (o : Outcome) → searched c ≡ o → answered c ≡ concluded c o → Way c

module _ (c : Call) where
  pub refused_by : {r : Refusal} → FirstToHold (tests c) r → answered c ≡ untouched c r
  unfolding answered after_tests
  refused_by first = ap (after_tests c) (first-given first)

  pub ran_to : NoneHolds (tests c) → {o : Outcome} → searched c ≡ o → answered c ≡ concluded c o
  unfolding answered after_tests
  ran_to passed e = ap (after_tests c) (none-given passed) ∙ ap (concluded c) e

  pub way : Way c
  way = go (first_refusal (tests c)) refl
    where
      go : (o : Option Refusal) → first_refusal (tests c) ≡ o → Way c
      go none e = let passed = none_means (tests c) e in ran passed (searched c) refl (ran_to passed refl)
      go (some r) e = let first = first_means (tests c) r e in refused first (refused_by first)

-- ---- what each kind of answer was made from

-- a plan: the tests passed, and the search found these moves
pub record PlanFrom (c : Call) (pl : Plan) : Type 0 where
  pub passed : NoneHolds (tests c)
  pub moves : List ℕ
  pub left : ℕ
  pub run : searched c ≡ found moves left
  pub all : answered c ≡ concluded c (found moves left)
  pub is : pl ≡ record { length = length moves; visits = c.budget - left }

-- a refusal by a test
pub record TestRefused (c : Call) (r : Refusal) : Type 0 where
  pub first : FirstToHold (tests c) r
  pub all : answered c ≡ untouched c r

-- 10: the tests passed, and the search returned a value
pub record NoPlanFrom (c : Call) (v : ℕ) : Type 0 where
  pub passed : NoneHolds (tests c)
  pub returned : ℕ
  pub left : ℕ
  pub run : searched c ≡ value returned left
  pub all : answered c ≡ concluded c (value returned left)
  pub is : v ≡ c.budget - left

-- 11: the tests passed, and the search ran out of visits
pub record SpentFrom (c : Call) (v : ℕ) : Type 0 where
  pub passed : NoneHolds (tests c)
  pub run : searched c ≡ spent
  pub all : answered c ≡ concluded c spent
  pub is : v ≡ c.budget

-- which of these an answer was made from
abbrev pub From : Call → Answer → Type 0
From c (Ok pl) = PlanFrom c pl
From c (Err (Board f)) = TestRefused c (Board f)
From c (Err (Beyond l)) = TestRefused c (Beyond l)
From c (Err ShortBuffer) = TestRefused c ShortBuffer
From c (Err OddBoard) = TestRefused c OddBoard
From c (Err (NoPlan v)) = NoPlanFrom c v
From c (Err (OutOfVisits v)) = SpentFrom c v

test-from : (c : Call) (r : Refusal) → TestNumber (refusal_number r) → TestRefused c r → From c (Err r)
test-from c (Board f) early it = it
test-from c (Beyond l) early it = it
test-from c ShortBuffer early it = it
test-from c OddBoard early it = it
test-from c (NoPlan v) early it = absurd (apart early (inr (omega arith)))
test-from c (OutOfVisits v) early it = absurd (apart early (inr (omega arith)))

answer-from : (c : Call) → Way c → From c (answered c).answer
unfolding concluded
answer-from c (refused {why} first w) =
    rw (ap (λ (l : Left). l.answer) w) (test-from c why (early_number c (refusing c first)) (record { first = first; all = w }))
answer-from c (ran passed (found ms left) run w) =
    rw (ap (λ (l : Left). l.answer) w) (record { passed = passed; moves = ms; left = left; run = run; all = w; is = refl })
answer-from c (ran passed (value v left) run w) =
    rw (ap (λ (l : Left). l.answer) w) (record { passed = passed; returned = v; left = left; run = run; all = w; is = refl })
answer-from c (ran passed spent run w) =
    rw (ap (λ (l : Left). l.answer) w) (record { passed = passed; run = run; all = w; is = refl })

pub made-from : (c : Call) {a : Answer} → (answered c).answer ≡ a → From c a
made-from c e = subst (From c) e (answer-from c (way c))
