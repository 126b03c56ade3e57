pub mod Scanning
pub mod Entry
