-- Top-k by quantile probing: the method, its theorem, and the invariants and steps with which code that follows it is proved.
pub mod Insertion
pub mod Held
pub mod Probed
pub mod Rounds
pub mod Theorem
