-- Laws of text in a slice, and of what the report shows.
pub mod Typing
pub mod Decimals
pub mod Reported
pub mod Entries
pub mod Lengths
pub mod Fits
pub mod Examples
