-- About the definitions alone, each file resting on those above it: firsts and the pigeonhole, shapes, boards, moves, distances,
-- the parity of test 9 and of exchanges, tests 1 to 4. Assumes nothing.
pub mod Firsts
pub mod Digits
pub mod TestsInOrder
pub mod Onto
pub mod Sides
pub mod Boards
pub mod Swaps
pub mod OneApart
pub mod Steps
pub mod Moving
pub mod Distances
pub mod Ways
pub mod Changes
pub mod Keeping
pub mod Inversions
pub mod Parities
pub mod Orders
pub mod Faultless
