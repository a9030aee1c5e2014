-- Laws of rarest_first: keys, the places of terms, and the results.
pub mod Keys
pub mod Placing
pub mod Ordering
pub mod Results
