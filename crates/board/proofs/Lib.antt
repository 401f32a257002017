-- The laws of the board part that belong to no one function. Other parts rest on what Laws collects; Settled says what the public
-- functions' statements leave open: nothing. Then theory, about the definitions alone, and code, which the functions' proofs cite.
-- Assumes nothing.
pub mod Laws
pub mod Settled
pub mod theory
pub mod code
