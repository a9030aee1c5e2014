-- Laws of sequences and of bits in bytes, for the proofs of all crates above.
pub mod Tests
pub mod Tally
pub mod Sequences
pub mod Chunks
pub mod Bits
pub mod Pack
pub mod LittleEndian
pub mod Samples
pub mod Stores
pub mod Words
