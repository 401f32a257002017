-- What the planner means: tests 5 to 7 and 15, the whole answer of a call (document 01, "Calling the planner"), and the short call.
pub mod Limits
pub mod Answer
pub mod Short
pub mod Ends
