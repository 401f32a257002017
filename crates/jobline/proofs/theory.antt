-- About the definitions alone, lowest first: digits and steps of reading a text, and with them the two halves of the reader's
-- promise; then stores, numbers in decimal and the lines of answers; worked lines. Assumes nothing.
pub mod Runs
pub mod Steps
pub mod Sound
pub mod Complete
pub mod Stores
pub mod Decimal
pub mod Lines
pub mod Short
pub mod Examples
