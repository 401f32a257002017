-- What the proofs of functions cite besides the theory: the loop that takes cells, text put into a buffer piece by piece, and what
-- reading, planning and writing give each other. Assumes nothing.
pub mod Taken
pub mod Puts
pub mod Answering
