-- `theory` is about the definitions alone, `code` is what the proofs of the functions cite besides, and `Promises` is the list to read.
-- The proof of each function is in the folder of its name. Assumes nothing.
pub mod theory
pub mod code
pub mod Promises
