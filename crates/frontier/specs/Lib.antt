-- What the contracts of frontier cite.
pub mod Priority
pub mod Heap
pub mod Operations
