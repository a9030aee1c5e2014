-- What the contracts of listing cite.
pub mod Listing
pub mod Places
