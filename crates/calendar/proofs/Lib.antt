-- Laws of the months, of the table, and of the checks of all days, as the code makes them.
pub mod Months
pub mod Table
pub mod Checks
