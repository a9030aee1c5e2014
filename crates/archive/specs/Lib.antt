-- What the contracts of archive cite, beside the definitions of model.
pub mod Layout
pub mod Opening
