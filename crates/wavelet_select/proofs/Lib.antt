-- Laws of select's way up, and of the way to the first entry of a range.
pub mod Places
pub mod Offsets
pub mod FirstEntries
