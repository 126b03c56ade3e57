-- The laws that the proofs of the functions cite.
pub mod Trees
pub mod Tables
pub mod Parsed
pub mod Entry
