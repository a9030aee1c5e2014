-- What the contracts of queries cite, beside the definitions of model.
pub mod Ranges
