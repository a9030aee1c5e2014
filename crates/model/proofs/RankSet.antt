-- Sets of documents (M-106).
pub mod Ascending
pub mod Counts
pub mod Demand
