-- Laws of the levels.
pub mod Stored
pub mod Steps
pub mod Halved
pub mod Spans
pub mod Descents
pub mod Ranges
