-- What the search rests on: the theory of the definitions alone, what the proofs of the functions cite, and searches worked out.
pub mod theory
pub mod code
pub mod Worked
