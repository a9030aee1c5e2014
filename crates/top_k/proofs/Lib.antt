-- Laws of the question before the search, and demand 3.
pub mod Demand3
pub mod Asking
pub mod Placing
