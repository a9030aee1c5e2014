-- Laws of sets of documents and of their counts at the nodes of the tree.
pub mod Rising
pub mod Agreeing
pub mod Parts
pub mod Members
pub mod Counted
pub mod Branch
pub mod Results
pub mod Demand
