pub mod Tokens
pub mod Rows
