pub mod Sources
pub mod Cuts
pub mod TextLines
pub mod Spelled
pub mod Asking
