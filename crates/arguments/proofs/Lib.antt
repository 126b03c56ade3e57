-- The laws that the proofs of the functions cite.
pub mod Then
pub mod Outs
pub mod Arguments
pub mod Bound
