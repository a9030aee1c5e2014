-- Rank and select over a sequence, and rows of bits in bytes.
pub mod Sequences
pub mod Bits
pub mod Rows
pub mod Row
