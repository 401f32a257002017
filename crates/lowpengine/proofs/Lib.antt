-- What is promised of the entries, then what it rests on: the theory of the definitions alone, and what the proofs of the functions cite.
-- Assumes nothing.
pub mod Promises
pub mod ReadPromises
pub mod theory
pub mod code
