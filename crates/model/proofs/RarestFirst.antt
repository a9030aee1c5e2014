-- Laws of the rarest term first (M-107).
pub mod Order
pub mod Scores
pub mod Demand
