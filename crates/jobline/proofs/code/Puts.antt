-- Laws of a line in the making: a piece has room where the whole has, one piece behind the other is both, and the whole line is answered
-- for. Assumes nothing.
use Prim.Native.Nat.{ℕ, ◌+◌, ◌≤◌, ◌<◌}
use native.Mathlib.Omega.{arith}
use native.Mathlib.Nat.{zero-add}
use mathlib.Core.Path.{◌≡◌, refl, ap, sym, ◌∙◌}
use mathlib.Core.List.{List, ◌++◌}
use lib.ListN.{length, length-append}
use lib.Seq.{sets, length-sets}
use borrow.Author.Tests.{le-leb, lt-leb}
use Rattle.std.specs.Prelude.{None, Some}
use Rattle.jobline.specs.declared.write.Line.{Line}
use Rattle.jobline.specs.Put.{HasRoom, Wrote, LineAnswered}
use Rattle.jobline.proofs.theory.Stores.{sets_append, sets_front}

-- the buffer keeps its length
pub wrote-length : {s : List ℕ} {old new : Line} → Wrote s old new → length new.out.now ≡ length old.out.now
wrote-length {s} {old} w = ap length w.put.bytes ∙ length-sets old.out.now old.at s

-- two pieces
pub room-front : (s t : List ℕ) (at size : ℕ) → at + length (s ++ t) ≤ size → at + length s ≤ size
room-front s t at size h = omega (arith, length-append s t)

pub room-behind : (s t : List ℕ) {old mid : Line} → Wrote s old mid → HasRoom (s ++ t) old → HasRoom t mid
room-behind s t a h = omega (arith, length-append s t, a.put.end, wrote-length a)

pub wrote_then : {s t : List ℕ} {old mid new : Line} → Wrote s old mid → Wrote t mid new → Wrote (s ++ t) old new
wrote_then {s} {t} {old} a b =
    record {
      same_buffer = b.same_buffer ∙ a.same_buffer;
      put =
          record {
            bytes = b.put.bytes ∙ rw (a.put.bytes, a.put.end) (sym (sets_append old.out.now old.at s t));
            end = rw length-append (omega (arith, a.put.end, b.put.end));
          };
    }

-- a text that has room in a buffer, in three pieces
pub record InPieces (front middle end whole out : List ℕ) : Type 0 where
  pub joined : (front ++ middle) ++ end ≡ whole
  pub room : length whole ≤ length out

-- the three pieces, put one behind the other from the start of the buffer, are the whole line
module _ {front middle end whole out : List ℕ} (p : InPieces front middle end whole out) where
  pieces_fit : length front + length middle + length end ≤ length out
  pieces_fit = omega (arith, p.room, simp length-append at (ap length p.joined))

  pub front_fits : 0 + length front ≤ length out
  front_fits = omega (arith, pieces_fit)

  module _ {start mid : Line} (empty : start.at ≡ 0) (lent : start.out.now ≡ out) (a : Wrote front start mid) where
    pub middle_fits : HasRoom middle mid
    middle_fits = omega (arith, pieces_fit, a.put.end, wrote-length a, ap length lent)

    module _ {late : Line} (b : Wrote middle mid late) where
      pub end_fits : HasRoom end late
      end_fits = omega (arith, pieces_fit, a.put.end, b.put.end, wrote-length a, wrote-length b, ap length lent)

      pub line-put : {new : Line} → Wrote end late new → LineAnswered whole out (Some new.at) new.out.now
      line-put {new} c =
          let all = wrote_then (wrote_then a b) c in
          let bytes : new.out.now ≡ sets out 0 whole = rw (p.joined, lent, empty) at all.put.bytes in
          let next : new.at ≡ length whole = rw (p.joined, empty, zero-add) at all.put.end in
          record {
            count = rw (le-leb (length whole) (length out) p.room, next) refl;
            buffer = rw (le-leb (length whole) (length out) p.room) (bytes ∙ sets_front out whole p.room);
          }

pub line_refused : (text old : List ℕ) → length old < length text → LineAnswered text old None old
line_refused text old h =
    record { count = rw (lt-leb (length text) (length old) h); buffer = rw (lt-leb (length text) (length old) h) }
