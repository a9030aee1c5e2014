-- Laws of weighted searches.
pub mod Totals
pub mod Nodes
pub mod Starts
pub mod Weighing
pub mod Roots
pub mod Answers
pub mod Refusals
pub mod Demand
