-- Demand 3 (`model/specs/Demand3`) from what the operations promise (`Theorem`). Before it the laws of the full list and its need (`FullList`), and of
-- what both searches promise (`Promises`).
pub mod FullList
pub mod Promises
pub mod Theorem
