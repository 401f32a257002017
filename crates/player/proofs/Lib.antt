-- The player's laws that belong to no one function: what is promised, that nothing is left open, and theory, about the definitions
-- alone. Other parts rest on what Laws collects. Assumes nothing.
pub mod Laws
pub mod Promises
pub mod Settled
pub mod theory
