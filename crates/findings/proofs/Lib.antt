-- The laws that the proofs of the functions cite.
pub mod Rows
pub mod Texts
pub mod Adds
pub mod ReadingClaims
pub mod Examples
