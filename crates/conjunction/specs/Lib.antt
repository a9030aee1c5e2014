-- What the contracts of conjunction cite, beside the definitions of model.
pub mod Conjunction
pub mod Orders
