pub mod Checking
pub mod Turned
