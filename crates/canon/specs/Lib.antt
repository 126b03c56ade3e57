pub mod Spelling
pub mod Entry
