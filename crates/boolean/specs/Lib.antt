-- What the contracts of boolean cite.
pub mod Words
pub mod Blocks
