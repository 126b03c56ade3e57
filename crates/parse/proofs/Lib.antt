-- The laws that the proofs of the functions cite.
pub mod Nodes
pub mod Few
pub mod Answers
pub mod Looks
pub mod Steps
pub mod Rows
pub mod TokenRows
pub mod Entry
