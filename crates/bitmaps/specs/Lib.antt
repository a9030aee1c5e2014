-- What the contracts of bitmaps cite.
pub mod Words
pub mod Bitmaps
