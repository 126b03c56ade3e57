-- The laws that the proofs of the functions cite.
pub mod Spelling
pub mod Strings
pub mod Contents
pub mod Rows
pub mod Texts
pub mod Answers
