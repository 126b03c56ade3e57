pub mod Determined
pub mod SameRows
pub mod Canonical
pub mod Exactly
pub mod Left
pub mod Numbered
pub mod Comparisons
pub mod Slots
