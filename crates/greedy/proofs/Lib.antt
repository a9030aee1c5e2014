-- Laws of the greedy search: its ground, on which the laws of `moves` hold, the halves of a node as they wait, and the answer.
pub mod Grounds
pub mod Records
pub mod Opens
pub mod Begins
pub mod Answers
