-- Laws of pairs in a slice, and of what occurs in a range.
pub mod Stores
pub mod Spreads
pub mod Occurrences
pub mod Passed
