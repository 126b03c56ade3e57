-- The laws that the proofs of the functions cite.
pub mod States
pub mod Feeding
pub mod Lines
pub mod Places
pub mod Answers
pub mod Bodies
pub mod Left
