-- What the board part means: the cabinet's rules in the paper's words and order. Each file is one rule; none has a proof but Once, on which
-- a type rests that keeps a fact.
pub mod First
pub mod Tests
pub mod Shape
pub mod Once
pub mod Board
pub mod Moves
pub mod Numbered
pub mod Lists
pub mod Distance
pub mod Parity
pub mod Order
pub mod Faults
pub mod Digits
pub mod Held
pub mod Change
