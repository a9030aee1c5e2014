-- Laws of counters.
pub mod Zeros
pub mod Laws
