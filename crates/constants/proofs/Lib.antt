pub mod Hits
pub mod Signatures
pub mod Entries
