-- What the contracts of probing cite, beside model.
pub mod Slices
pub mod Candidates
pub mod Full
