pub mod Parsing
pub mod Entry
