-- Laws over plain variables, for the proofs of the functions.
pub mod Leads
pub mod Chars
pub mod Tails
pub mod Places
