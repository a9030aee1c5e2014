-- What the contracts of ranges cite, beside the definitions of model.
pub mod Ranges
