-- What a result says of an outcome.
pub mod Outcomes
