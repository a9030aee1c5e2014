-- The table of the days of a year, by month and day.
pub mod Kinds
