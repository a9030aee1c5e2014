-- Laws of reading. Demand2 joins the promises of the writer and the reader with that of the check on opening.
pub mod Descending
pub mod Contents
pub mod Demand2
