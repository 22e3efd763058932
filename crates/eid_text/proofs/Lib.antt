pub mod Hexadecimal
pub mod Encoding
pub mod Decoding
pub mod Readings
pub mod Turns
