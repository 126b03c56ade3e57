-- The laws that the proofs of the functions cite.
pub mod Failed
pub mod Growing
pub mod Statements
pub mod StmtRows
pub mod Turns
pub mod Runs
