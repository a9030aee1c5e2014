-- What the contracts of writer cite, beside the definitions of model and archive.
pub mod Rows
pub mod Writing
