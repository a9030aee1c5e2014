-- What the contracts of masuvelior cite, beside the definitions of model and of ffi.
pub mod Length
