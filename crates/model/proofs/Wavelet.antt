-- Laws of the rows of a wavelet tree, for any height.
pub mod Groups
pub mod Step
pub mod Rows
pub mod Mix
pub mod Split
pub mod Decode
pub mod Counts
pub mod Descend
pub mod Rank
pub mod Sorted
pub mod Quantile
pub mod Select
pub mod Halving
pub mod Placing
