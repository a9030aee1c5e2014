-- Laws of bitmaps.
pub mod Blocks
pub mod Words
pub mod Followed
pub mod Zeros
pub mod Masks
pub mod Alone
pub mod Terms
