-- The laws that the proofs of the functions cite.
pub mod Bytes
pub mod Places
pub mod Runs
pub mod Keys
