pub mod Findings
pub mod Reading
