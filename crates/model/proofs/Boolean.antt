-- Questions with and, or, not, document 02, M-104: what the grammar reads is found (`Complete`) and what is found the grammar reads (`Sound`), so that a
-- question has at most one reading (`Theorem`); reading in an algebra is reading and then evaluating (`Evaluated`), words may be renamed (`Renamed`), and a
-- question has at most 32 (`Few`). `Demand` has the request's sentences.
pub mod Complete
pub mod Sound
pub mod Evaluated
pub mod Renamed
pub mod Few
pub mod Theorem
pub mod Demand
