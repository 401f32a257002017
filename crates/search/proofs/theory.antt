-- The search over any space, each file on those above it: rows, laws and walks, the static value, the shape of a claim, then what an
-- answer says, what it leaves of the budget, how large its numbers get and where it ends at once. `Theory` has the final
-- statements.
pub mod Rows
pub mod Laws
pub mod Walks
pub mod Fair
pub mod Successors
pub mod Stored
pub mod Turns
pub mod Ahead
pub mod Depth
pub mod Visits
pub mod Budget
pub mod Again
pub mod Limits
pub mod Above
pub mod Theory
