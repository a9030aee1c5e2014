-- Document 01's values of the answers, and what functions that write pairs leave.
pub mod Answers
pub mod Written
pub mod Spread
