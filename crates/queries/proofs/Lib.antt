-- Laws of the questions.
pub mod Results
pub mod Demand
