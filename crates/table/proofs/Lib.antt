-- The laws of tables, which everybody above cites.
pub mod Laws
pub mod Stores
