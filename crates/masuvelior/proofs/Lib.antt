-- Laws of the exports, for their proofs.
pub mod Narrow
