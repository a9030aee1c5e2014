-- Laws of the waiting nodes in the work slice, and of a search that moves on them, over any ground.
pub mod Grounds
pub mod Tree
pub mod Records
pub mod Kept
pub mod Halves
pub mod Made
pub mod Advances
pub mod Course
pub mod Opens
pub mod Searching
