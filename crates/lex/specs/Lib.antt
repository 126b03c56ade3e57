pub mod Lexing
pub mod Entry
