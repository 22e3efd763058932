pub mod Field
pub mod Cipher
pub mod Cbc
pub mod Columns
pub mod Words
