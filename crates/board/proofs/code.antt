-- What the proofs of functions cite beside the theory: a loop that looks for a first number, a table's rule by one computed test, a
-- position that holds a board, a tray slid in it, and a loop that follows a board's cycles. Assumes nothing.
pub mod FirstLoop
pub mod Entries
pub mod Filling
pub mod Holding
pub mod Sliding
pub mod Away
pub mod Cycles
