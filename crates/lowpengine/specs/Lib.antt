-- What the C entries mean: the table as bytes, an answer as one number, and what an entry gives. No file has a proof.
-- Assumes nothing.
pub mod Bytes
pub mod Packed
pub mod Given
