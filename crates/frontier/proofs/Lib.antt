-- Laws of the definitions; Queue and Callers have those that callers use.
pub mod Sort
pub mod Priority
pub mod Records
pub mod Holes
pub mod Queue
pub mod Sift
pub mod Operations
pub mod Callers
pub mod Examples
