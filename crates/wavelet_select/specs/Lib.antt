-- What the contracts of select cite.
pub mod Places
pub mod First
