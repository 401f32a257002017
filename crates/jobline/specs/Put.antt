-- How text is put into a lent buffer: bytes stored from a place on, piece by piece, and a whole line with the answer that goes with it.
-- Assumes nothing.
use Rattle.std.specs.Prelude.{ℕ, ◌+◌, ◌≤◌, ◌≡◌, nat_le, if◌then◌else◌, Bool, List, ◌++◌, length, drop, Option, None, Some}
use Rattle.std.proofs.lemmas.List.Edits.{sets}
use Rattle.jobline.specs.declared.write.Line.{Line}

-- the text was stored from a place on, and next is the place behind it
pub record Put (text old : List ℕ) (at : ℕ) (new : List ℕ) (next : ℕ) : Type 0 where
  pub bytes : new ≡ sets old at text
  pub end : next ≡ at + length text

-- the buffer of a line in the making has room for a text behind what stands there
abbrev pub HasRoom : List ℕ → Line → Type 0
HasRoom text line = line.at + length text ≤ length line.out.now

-- the text was put behind what stood there, in the same buffer
pub record Wrote (text : List ℕ) (old new : Line) : Type 0 where
  pub same_buffer : new.out.ghost_name ≡ old.out.ghost_name
  pub put : Put text old.out.now old.at new.out.now new.at

-- a line put into a buffer: in front where the buffer has room, and the rest as found; else nothing
abbrev pub room_for : List ℕ → List ℕ → Bool
room_for text buffer = nat_le (length text) (length buffer)

abbrev pub with_line : List ℕ → List ℕ → List ℕ
with_line text buffer = if room_for text buffer then text ++ drop (length text) buffer else buffer

-- how many bytes were put there; none where there is too little room
abbrev pub put_length : List ℕ → List ℕ → Option ℕ
put_length text buffer = if room_for text buffer then Some (length text) else None

-- a line was put at the start of the buffer and its length answered; or nothing and none, where there is too little room
pub record LineAnswered (text old : List ℕ) (answer : Option ℕ) (new : List ℕ) : Type 0 where
  pub count : answer ≡ put_length text old
  pub buffer : new ≡ with_line text old
