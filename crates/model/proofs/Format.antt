-- Libraries and their archives are the same thing.
pub mod Valid
pub mod Layout
pub mod ReadBack
pub mod WriteBack
pub mod Theorem
