pub mod Names
pub mod Ranges
