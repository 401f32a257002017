-- What the proofs of the functions cite: the planner's call on a table of the entry's own.
pub mod OwnTable
