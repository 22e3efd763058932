pub mod Issued
pub mod Generating
