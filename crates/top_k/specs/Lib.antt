-- What the contracts of top_k cite.
pub mod Asked
