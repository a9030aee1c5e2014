-- Laws of the ends of a range.
pub mod RangeEnds
pub mod TermEnds
