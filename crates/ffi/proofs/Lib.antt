-- Laws of what passes to other languages, for the proofs of the exports.
pub mod Leaving
pub mod Chosen
