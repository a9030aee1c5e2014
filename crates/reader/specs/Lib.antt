-- What the contracts of reader cite, beside the definitions of model and archive.
pub mod Reading
