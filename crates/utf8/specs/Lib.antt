pub mod Ascii
pub mod Decoding
