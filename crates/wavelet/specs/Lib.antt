-- What the contracts of wavelet cite.
pub mod Levels
pub mod Spans
pub mod Descents
pub mod Ranges
