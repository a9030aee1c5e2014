-- The weighted shortlist, document 02, M-100: a weight is the largest that fits (`Weights`), scores add up from the halves of a node (`Scores`),
-- the search by moves gives the weighted answer (`Theorem`), no score is above 48 * 65,535 (`Limit`), and the result yields the request's sentences (`Demand`).
pub mod Weights
pub mod Scores
pub mod Theorem
pub mod Limit
pub mod Demand
