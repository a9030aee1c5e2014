-- Laws of the search for a bit.
pub mod Halving
pub mod Search
