-- Laws of writing.
pub mod Chains
pub mod Numbers
pub mod Overwrite
pub mod Filling
pub mod Leveling
pub mod Assembly
pub mod Refusals
