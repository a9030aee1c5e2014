-- Laws of paths: their frames, the step from a node to its halves, and the way from node to node.
pub mod Asking
pub mod Filling
pub mod Frames
pub mod Openings
pub mod TermSpans
pub mod Roots
pub mod NodeSteps
pub mod Passing
pub mod PassSteps
pub mod Trees
pub mod Ways
