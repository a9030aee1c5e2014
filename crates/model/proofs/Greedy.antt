-- The greedy search gives the top-k answer (`Theorem`): told over any count that never rises from a node to its halves (`Abstract`),
-- and then for the count of entries. `Waits` is for code that keeps a frontier.
pub mod Abstract
pub mod Nodes
pub mod Frontier
pub mod Visits
pub mod Moves
pub mod Need
pub mod Order
pub mod Answers
pub mod Counts
pub mod Theorem
pub mod Waits
