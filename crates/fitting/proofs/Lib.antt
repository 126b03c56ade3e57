-- The laws that the proofs of the functions cite.
pub mod Numbers
pub mod Fitting
pub mod Keeping
