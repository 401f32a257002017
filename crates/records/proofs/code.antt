-- What the proofs of functions cite: bytes put into a buffer, and the tests one after the other. Assumes nothing.
pub mod Storing
pub mod Testing
pub mod Reading
pub mod Taking
