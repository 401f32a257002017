-- The laws about the definitions alone (theory), what the functions' proofs cite (code), and what is promised of plan records: `Promises`
-- is the list to read. Assumes nothing.
pub mod theory
pub mod code
pub mod Promises
pub mod ReadPromises
