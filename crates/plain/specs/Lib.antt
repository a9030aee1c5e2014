-- What the plain side promises of its refusals.
pub mod Refused
