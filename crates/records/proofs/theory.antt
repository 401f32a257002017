-- About the definitions alone: rows computed of them, the laws of groups and marks, a record's pieces and length, what an answer means.
-- Assumes nothing.
pub mod Rows
pub mod Grouping
pub mod Marks
pub mod Pieces
pub mod Lengths
pub mod Outcomes
pub mod ReadRows
pub mod Scanning
pub mod Asking
pub mod Standing
pub mod Whole
pub mod Back
pub mod Refusing
pub mod Forming
