pub mod Spelled
pub mod Commands
pub mod Numbers
