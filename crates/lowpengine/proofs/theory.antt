-- The table's bytes and its numbers; how many of them an answer leaves cleared; answers as one number.
pub mod Pairs
pub mod Used
pub mod Sizes
pub mod Places
pub mod Packing
pub mod Narrowed
