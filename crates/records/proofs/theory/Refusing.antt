-- When each refusal is given: while the numbers are read, by the first number that has a fault; or else by the first test behind them
-- that holds. Then that a refusal leaves the output as found. Assumes nothing.
use Prim.Native.Nat.{ℕ, ◌+◌}
use mathlib.Core.Path.{◌≡◌, refl, ap, ◌∙◌}
use mathlib.Core.List.{List, ◌++◌}
use mathlib.Core.Option.{Option, none, some}
use Rattle.std.specs.Prelude.{Ok, Err}
use Rattle.board.specs.Tests.{FirstToHold, under}
use Rattle.board.proofs.Laws.{first_means, first-given}
use Rattle.records.specs.declared.Numbers.{Numbers}
use Rattle.records.specs.declared.ReadRefusal.{ReadRefusal}
use Rattle.records.specs.declared.ReadRefusal.TheVariants.{Plan}
use Rattle.records.specs.Read.{Begun, begun, numbers_in, end_tests, reading_tests, moves_at, leaves_read, begun_read, read_back}

-- a refusal is met
pub data Met (bytes found : List ℕ) : ReadRefusal → Type 0 where
  -- a number has this fault, and none before it has one
  reading : (why : ReadRefusal) → numbers_in bytes ≡ Err why → Met bytes found why
  -- all numbers were read, and the first test behind them that holds has this refusal
  testing : (n : Numbers) (cells : List ℕ) (at : ℕ) (why : ReadRefusal) → numbers_in bytes ≡ begun n cells at
      → FirstToHold (end_tests bytes (at + n.length) ++ under Plan (reading_tests n cells (moves_at bytes at n.length) found)) why
      → Met bytes found why

module _ (bytes found : List ℕ) (why : ReadRefusal) where
  refusal-some : (n : Numbers) (cells moves : List ℕ) (o : Option ReadRefusal) → (leaves_read n cells moves found o).answer ≡ Err why
      → (o ≡ some why) × ((leaves_read n cells moves found o).out ≡ found)
  unfolding leaves_read
  refusal-some n cells moves none e = cc
  refusal-some n cells moves (some other) e = (cc, refl)

  -- the whole of what a refusal tells
  told : (b : Begun) → numbers_in bytes ≡ b → (begun_read bytes found b).answer ≡ Err why
      → Met bytes found why × ((begun_read bytes found b).out ≡ found)
  told (Err other) is e = let same : other ≡ why = cc in (reading why (is ∙ ap Err same), refl)
  told (Ok (n, cells, at)) is e =
      let both = refusal-some n cells (moves_at bytes at n.length) _ e in
      (testing n cells at why is (first_means _ why both.0), both.1)

  pub refused_met : (read_back bytes found).answer ≡ Err why → Met bytes found why
  unfolding read_back
  refused_met e = (told (numbers_in bytes) refl e).0

  pub refused_keeps : (read_back bytes found).answer ≡ Err why → (read_back bytes found).out ≡ found
  unfolding read_back
  refused_keeps e = (told (numbers_in bytes) refl e).1

pub met_refused : (bytes found : List ℕ) (why : ReadRefusal) → Met bytes found why → (read_back bytes found).answer ≡ Err why
unfolding read_back leaves_read
met_refused bytes found _ (reading why is) = ap (λ (b : Begun). (begun_read bytes found b).answer) is
met_refused bytes found _ (testing n cells at why is first) =
    ap (λ (b : Begun). (begun_read bytes found b).answer) is
    ∙ ap (λ (o : Option ReadRefusal). (leaves_read n cells (moves_at bytes at n.length) found o).answer) (first-given first)
