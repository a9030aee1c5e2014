-- What the contracts of rank_set cite.
pub mod Sets
pub mod Nodes
