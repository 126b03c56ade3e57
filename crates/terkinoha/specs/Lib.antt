pub mod Words
pub mod Bodies
pub mod Rooms
pub mod Version
