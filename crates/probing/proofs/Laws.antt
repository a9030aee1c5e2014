-- Laws of candidates and marks in the lent slices, with which the code is proved; those of the method are model's.
pub mod Slices
pub mod Places
pub mod Inserting
pub mod Entering
pub mod Steps
