-- What the contracts of report cite.
pub mod Report
pub mod Types
