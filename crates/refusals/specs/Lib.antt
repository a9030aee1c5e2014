-- The numbers of the refusals, and what a result with one comes to.
pub mod Refusals
