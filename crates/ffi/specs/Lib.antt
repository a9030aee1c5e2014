-- What the contracts of ffi and of the exports cite, beside the definitions of model.
pub mod Left
pub mod Chosen
