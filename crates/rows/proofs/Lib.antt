-- The laws that the proofs of the functions cite.
pub mod Plain
pub mod Toks
pub mod TokenRows
