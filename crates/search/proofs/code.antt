-- What the proofs of the functions cite: the space that is meant, the rows in the table, the answers, `work` and `visit`, and the
-- whole search.
pub mod BoardSpace
pub mod TableRows
pub mod Outcomes
pub mod Answers
pub mod Picking
pub mod Working
pub mod Visiting
pub mod Whole
