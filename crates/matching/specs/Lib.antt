-- What the contracts of matching cite.
pub mod Sets
pub mod Parsing
