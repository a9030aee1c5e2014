-- Laws of the walk over several terms: what it finds, the path that it keeps, and how it goes on.
pub mod Refusals
pub mod Commons
pub mod TermCounts
pub mod Searches
pub mod Counting
pub mod Scans
pub mod SearchSteps
pub mod Walks
pub mod Demand2
