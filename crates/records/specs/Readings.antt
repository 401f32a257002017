-- A reader's answer: the paper's number of each refusal, and the place that it reports (0 where none is meant). Assumes nothing.
use Rattle.std.specs.Prelude.{ℕ, Result}
use Rattle.board.specs.Numbered.{of_refused}
use Rattle.records.specs.declared.ReadRefusal.{ReadRefusal}
use Rattle.records.specs.declared.ReadRefusal.TheVariants.{CutShort, BadNumber, BadSide, LongList, BytesAfter, WrongMark, Plan}
use Rattle.records.specs.declared.Numbers.{Numbers}
use Rattle.records.specs.Answers.{refusal_number, refusal_place}

abbrev pub unread_number : ReadRefusal → ℕ
unread_number (CutShort i) = 17
unread_number (BadNumber i) = 18
unread_number (BadSide i) = 1
unread_number (LongList i) = 21
unread_number (BytesAfter i) = 20
unread_number WrongMark = 19
unread_number (Plan why) = refusal_number why

abbrev pub unread_place : ReadRefusal → ℕ
unread_place (CutShort i) = i
unread_place (BadNumber i) = i
unread_place (BadSide i) = i
unread_place (LongList i) = i
unread_place (BytesAfter i) = i
unread_place WrongMark = 0
unread_place (Plan why) = refusal_place why

abbrev pub reading_number : Result Numbers ReadRefusal → ℕ
reading_number answer = of_refused unread_number answer

abbrev pub reading_place : Result Numbers ReadRefusal → ℕ
reading_place answer = of_refused unread_place answer
