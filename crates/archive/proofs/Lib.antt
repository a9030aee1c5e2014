-- Laws of the archive, for its proofs and for callers.
pub mod Bounds
pub mod Parts
pub mod Acceptance
pub mod TermTable
pub mod Opened
