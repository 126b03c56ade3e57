-- The laws that the proofs of the functions cite.
pub mod Words
pub mod Bodies
pub mod Spans
pub mod Found
pub mod Rooms
