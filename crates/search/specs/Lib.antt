-- What the search means (document 01, "The search"): the space that is searched, the decisions over a row, the search itself, and
-- what its code is held to.
pub mod Space
pub mod Row
pub mod Search
pub mod Run
pub mod Ground
