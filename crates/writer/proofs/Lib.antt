-- The laws of writing, which callers cite, and of the digits that are written.
pub mod Laws
pub mod Digits
