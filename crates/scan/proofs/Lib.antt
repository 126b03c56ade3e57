-- The laws that the proofs of the functions cite.
pub mod Parts
pub mod Tokens
pub mod Numbers
pub mod Starts
pub mod Turns
pub mod Filling
pub mod Answers
