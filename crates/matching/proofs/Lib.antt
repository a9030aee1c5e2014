-- Sets document by document (`Sets`), the reading at a place of a question (`Onward`), and the laws that the functions cite (`PartsRead`, `Whole`).
pub mod Sets
pub mod Onward
pub mod PartsRead
pub mod Whole
