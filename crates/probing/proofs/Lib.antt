-- Laws of the range that is probed; those of probing itself are model's.
pub mod Laws
pub mod Ranges
