-- Laws of boolean, and the sentences of its request (`Demand`).
pub mod Members
pub mod Numbering
pub mod Readable
pub mod Matched
pub mod Renaming
pub mod Blanks
pub mod Filling
pub mod Answered
pub mod Demand
