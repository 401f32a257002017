-- What a plan record means, in the request's words and order: a number as groups of seven bits, the mark, the bytes of a record, the
-- refusals in order with the output afterwards, an answer's fields. `Put` is how bytes come into a buffer, `Parts` what is put. Then
-- reading: numbers as they stand in bytes, the whole call, an answer's fields. No file has a proof.
-- Assumes nothing.
pub mod Groups
pub mod Mark
pub mod Record
pub mod Write
pub mod Answers
pub mod Put
pub mod Parts
pub mod Scan
pub mod Read
pub mod Readings
pub mod Form
