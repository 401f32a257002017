-- What the proofs of the call's functions cite: the loop over divisors, the tests one after the other, and the answer that
-- the search's end makes.
pub mod Dividing
pub mod Testing
pub mod Calling
