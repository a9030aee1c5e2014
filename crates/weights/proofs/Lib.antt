-- Laws of weights, and of the walk that counts documents.
pub mod Documents
pub mod Fourths
pub mod LastRow
