-- What the contracts of greedy cite.
pub mod Records
pub mod Grounds
