-- What is promised of the planner and the boards worked by hand, then what both rest on: the theory of the definitions alone, and what the
-- proofs of the functions cite.
pub mod Promises
pub mod Worked
pub mod theory
pub mod code
