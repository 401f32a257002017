-- The tests as the code takes them one after the other: tests 5 to 7 and 15 as `measured` has them, then what each way out of the call
-- settles.
-- Each lemma takes the results of the tests that were passed, as the code has them. In the order of the tests.
-- Assumes nothing.
use Prim.Native.Nat.{ℕ, ◌≤◌}
use mathlib.Core.Path.{◌≡◌, refl, sym, ap, subst, ◌∙◌}
use mathlib.Core.Bool.{Bool, true, false}
use mathlib.Core.List.{List}
use lib.IntN.{ℤ, pos}
use lib.ListN.{length}
use mir.Syntax.{w32}
use mir.Val.{SFits, to_z, of_z}
use mir.ValLaws.{to_z-of_z}
use Rattle.board.specs.declared.Shape.{Shape}
use Rattle.board.specs.declared.Fault.{Fault}
use Rattle.board.specs.Shape.{GoodShape}
use Rattle.board.specs.Board.{IsBoard}
use Rattle.board.specs.Tests.{first_refusal, FirstToHold, here, later, NoneHolds, end, past}
use Rattle.board.specs.Faults.{fault_tests, tested}
use Rattle.board.specs.Parity.{is_odd}
use Rattle.board.proofs.Laws.{sound_means, faulty_means, none-faulty, faultless-sound, front-given, behind-given, none_both}
use Rattle.search.specs.Run.{SmallJob, Room}
use Rattle.planner.specs.declared.Limit.{Limit}
use Rattle.planner.specs.declared.Limit.TheVariants.{BadCeiling, BadBudget, BadWeight, NotLowest}
use Rattle.planner.specs.declared.Terms.{Terms}
use Rattle.std.specs.Prelude.{Result, Ok, Err}
use Rattle.planner.specs.declared.Refusal.{Refusal}
use Rattle.planner.specs.declared.Refusal.TheVariants.{Board, Beyond, ShortBuffer, OddBoard}
use Rattle.planner.specs.Answer.{Answer}
use Rattle.planner.specs.Limits.{bad_ceiling, ceiling_of, bad_budget, bad_weight, shares_divisor, limit_tests, said_of, measured}
use Rattle.planner.specs.Answer.{Call, short_buffer, last_tests, tests, answered, called, within, Settles}
use Rattle.planner.proofs.theory.Passing.{ceiling-passes, ceiling-named, weight-passes, buffers_pass, Kept, limits-kept}
use Rattle.planner.proofs.theory.Passing.{outside_means, within_means}
use Rattle.planner.proofs.theory.Ways.{refused_by}

-- a test's result as the code has it, said of the test
pub told : {r t b : Bool} → r ≡ t → r ≡ b → t ≡ b
told e f = sym e ∙ f

-- test 5 of a ceiling that was handed on through its bits is test 5 of the ceiling
pub read_back_lem : {z : ℤ} {r : Bool} → SFits w32 z → r ≡ bad_ceiling (to_z w32 (of_z w32 z)) → r ≡ bad_ceiling z
read_back_lem {z} fits e = e ∙ ap bad_ceiling (to_z-of_z w32 z fits)

pub measured-back : (z : ℤ) (budget p q : ℕ) {r : Result Terms Limit} → SFits w32 z → r ≡ measured (to_z w32 (of_z w32 z)) budget p q
    → r ≡ measured z budget p q
measured-back z budget p q fits e = e ∙ ap (λ (y : ℤ). measured y budget p q) (to_z-of_z w32 z fits)

-- ---- tests 5 to 7 and 15

module _ (z : ℤ) (budget p q : ℕ) where
  pub outside_5 : bad_ceiling z ≡ true → Err BadCeiling ≡ measured z budget p q
  unfolding measured limit_tests said_of first_refusal
  outside_5 five = rw five

  pub outside_6 : bad_ceiling z ≡ false → bad_budget budget ≡ true → Err BadBudget ≡ measured z budget p q
  unfolding measured limit_tests said_of first_refusal
  outside_6 five six = rw (five, six)

  pub outside_7 : bad_ceiling z ≡ false → bad_budget budget ≡ false → bad_weight p q ≡ true → Err BadWeight ≡ measured z budget p q
  unfolding measured limit_tests said_of first_refusal
  outside_7 five six seven = rw (five, six, seven)

  pub outside_15 : bad_ceiling z ≡ false → bad_budget budget ≡ false → bad_weight p q ≡ false → shares_divisor p q ≡ true
      → Err NotLowest ≡ measured z budget p q
  unfolding measured limit_tests said_of first_refusal
  outside_15 five six seven fifteen = rw (five, six, seven, fifteen)

  pub within_all : (k : ℕ) → k ≡ ceiling_of z → bad_ceiling z ≡ false → bad_budget budget ≡ false → bad_weight p q ≡ false
      → shares_divisor p q ≡ false → Ok (record { ceiling = k; weight = record { p = p; q = q } }) ≡ measured z budget p q
  unfolding measured limit_tests said_of first_refusal
  within_all k is five six seven fifteen =
      rw (five, six, seven, fifteen) (ap (λ (n : ℕ). Ok (record { ceiling = n; weight = record { p = p; q = q } })) is)

-- the terms that are named keep the limits
pub terms_kept : (z : ℤ) (budget p q : ℕ) (t : Terms) → measured z budget p q ≡ Ok t
    → NoneHolds (limit_tests (pos t.ceiling) budget t.weight.p t.weight.q)
terms_kept z budget p q t e =
    let means = within_means z budget p q t e in
    let five = (limits-kept z budget p q means.0).ceiling_ok in
    subst (λ (u : Terms). NoneHolds (limit_tests (pos u.ceiling) budget u.weight.p u.weight.q)) (sym means.1)
    (subst (λ (y : ℤ). NoneHolds (limit_tests y budget p q)) (sym (ceiling-named z five)) means.0)

-- ---- what a test that holds settles

settles_by : (c : Call) (r : Refusal) → FirstToHold (tests c) r → Settles (answered c) (Err r) c.moves c.table
settles_by c r first = rw (refused_by c first) (record { answer = refl; moves = refl; table = refl })

pub refused-board : (c : Call) (f : Fault) → tested c.width c.height c.board ≡ Err f
    → Settles (answered c) (Err (Board f)) c.moves c.table
unfolding tests
refused-board c f e = settles_by c (Board f) (front-given Board _ (faulty_means c.width c.height c.board f e))

pub sound-board : (w h : ℕ) (b : List ℕ) (s : Shape) → tested w h b ≡ Ok s → GoodShape s × IsBoard s b
sound-board w h b s e = let means = sound_means w h b s e in (means.1, means.2)

-- the ceiling is handed on as the same number
pub same-ceiling : (w h : ℕ) (b : List ℕ) (z y : ℤ) (budget p q : ℕ) (moves table : List ℕ) (r : Answer) (moves' table' : List ℕ) → y ≡ z
    → Settles (answered (called w h b y budget p q moves table)) r moves' table'
    → Settles (answered (called w h b z budget p q moves table)) r moves' table'
same-ceiling w h b z y budget p q moves table r moves' table' same settled =
    subst (λ (x : ℤ). Settles (answered (called w h b x budget p q moves table)) r moves' table') same settled

-- the board is sound, and what is settled for its shape is settled for the width and the height that were given
of-sound : (w h : ℕ) (b : List ℕ) (z : ℤ) (budget p q : ℕ) (moves table : List ℕ) (s : Shape) (r : Answer) (moves' table' : List ℕ)
    → tested w h b ≡ Ok s → Settles (answered (called s.width s.height b z budget p q moves table)) r moves' table'
    → Settles (answered (called w h b z budget p q moves table)) r moves' table'
of-sound w h b z budget p q moves table s r moves' table' e settled =
    subst (λ (s' : Shape). Settles (answered (called s'.width s'.height b z budget p q moves table)) r moves' table')
    (sound_means w h b s e).0 settled

-- ---- a sound board: tests 5 to 7 and 15

module _ (s : Shape) (b : List ℕ) (sound : GoodShape s × IsBoard s b) where
  faultless : NoneHolds (fault_tests s.width s.height b)
  faultless = none-faulty s.width s.height b s (faultless-sound s b sound.0 sound.1)

  module _ (z : ℤ) (budget p q : ℕ) (moves table : List ℕ) where
    refused_limit : (l : Limit) → measured z budget p q ≡ Err l
        → Settles (answered (called s.width s.height b z budget p q moves table)) (Err (Beyond l)) moves table
    unfolding tests
    refused_limit l e =
        settles_by (called s.width s.height b z budget p q moves table) (Beyond l)
        (behind-given Board faultless (front-given Beyond _ (outside_means z budget p q l e)))

    -- what is settled of the terms is settled of the call that named them
    of_terms : (t : Terms) (r : Answer) (moves' table' : List ℕ) → measured z budget p q ≡ Ok t
        → Settles (answered (within s b t budget moves table)) r moves' table'
        → Settles (answered (called s.width s.height b z budget p q moves table)) r moves' table'
    of_terms t r moves' table' e settled =
        let means = within_means z budget p q t e in
        let five = (limits-kept z budget p q means.0).ceiling_ok in
        subst (λ (y : ℤ). Settles (answered (called s.width s.height b y budget p q moves table)) r moves' table')
        (ceiling-named z five)
        (subst (λ (u : Terms). Settles (answered (within s b u budget moves table)) r moves' table') means.1 settled)

  module _ (t : Terms) (budget : ℕ) (kept : NoneHolds (limit_tests (pos t.ceiling) budget t.weight.p t.weight.q)) where
    limits : Kept (pos t.ceiling) budget t.weight.p t.weight.q
    limits = limits-kept (pos t.ceiling) budget t.weight.p t.weight.q kept

    pub ceiling-low : t.ceiling ≤ 120
    unfolding ceiling_of
    ceiling-low = ceiling-passes (pos t.ceiling) limits.ceiling_ok

    -- the job that is made of them
    pub small-job : SmallJob (record { shape = s; weight = t.weight; ceiling = t.ceiling })
    small-job =
        let w = weight-passes t.weight.p t.weight.q limits.weight_ok in
        record { shape = sound.0; ceiling = ceiling-low; weight = w.order; most = w.most }

  module _ (t : Terms) (budget : ℕ) (moves table : List ℕ)
      (kept : NoneHolds (limit_tests (pos t.ceiling) budget t.weight.p t.weight.q)) where
    -- ---- tests 8 and 9

    last_settles : (r : Refusal) → FirstToHold (last_tests (within s b t budget moves table)) r
        → Settles (answered (within s b t budget moves table)) (Err r) moves table
    unfolding tests
    last_settles r first = settles_by (within s b t budget moves table) r (behind-given Board faultless (behind-given Beyond kept first))

    pub refused-short : short_buffer t.ceiling (length moves) (length table) ≡ true
        → Settles (answered (within s b t budget moves table)) (Err ShortBuffer) moves table
    unfolding last_tests ceiling_of
    refused-short eight = last_settles ShortBuffer (here eight)

    pub refused-odd : short_buffer t.ceiling (length moves) (length table) ≡ false → is_odd s b ≡ true
        → Settles (answered (within s b t budget moves table)) (Err OddBoard) moves table
    unfolding last_tests ceiling_of
    refused-odd eight nine = last_settles OddBoard (later eight (here nine))

    -- every test is passed
    pub all-passed : short_buffer t.ceiling (length moves) (length table) ≡ false → is_odd s b ≡ false
        → NoneHolds (tests (within s b t budget moves table))
    unfolding tests last_tests ceiling_of
    all-passed eight nine = none_both Board faultless (none_both Beyond kept (past eight (past nine end)))

    pub room-passed : short_buffer t.ceiling (length moves) (length table) ≡ false
        → Room (record { shape = s; weight = t.weight; ceiling = t.ceiling }) table moves
    room-passed eight =
        let both = buffers_pass t.ceiling (length moves) (length table) eight in
        record { rows = both.1; path = both.0 }

-- ---- a call as it was given, whose first tests were passed

module _ (w h : ℕ) (b : List ℕ) (s : Shape) (shape : tested w h b ≡ Ok s) (z : ℤ) (budget p q : ℕ) (moves table : List ℕ) where
  pub refused-limit : (l : Limit) → measured z budget p q ≡ Err l
      → Settles (answered (called w h b z budget p q moves table)) (Err (Beyond l)) moves table
  refused-limit l e =
      of-sound w h b z budget p q moves table s _ _ _ shape
      (refused_limit s b (sound-board w h b s shape) z budget p q moves table l e)

  pub of-terms : (t : Terms) (r : Answer) (moves' table' : List ℕ) → measured z budget p q ≡ Ok t
      → Settles (answered (within s b t budget moves table)) r moves' table'
      → Settles (answered (called w h b z budget p q moves table)) r moves' table'
  of-terms t r moves' table' terms settled =
      of-sound w h b z budget p q moves table s r moves' table' shape
      (of_terms s b (sound-board w h b s shape) z budget p q moves table t r moves' table' terms settled)
