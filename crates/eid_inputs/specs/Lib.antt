pub mod Exits
pub mod Images
pub mod Inputs
pub mod Loads
pub mod Storing
