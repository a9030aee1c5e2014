-- What the contracts of both searches cite.
pub mod Searchable
pub mod Sought
