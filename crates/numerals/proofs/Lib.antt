-- The laws that the proofs of the functions cite.
pub mod Digits
pub mod Numerals
pub mod Quads
