-- What the contracts of rank cite.
pub mod Near
