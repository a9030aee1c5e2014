-- What the contracts of rarest_first cite.
pub mod Keys
