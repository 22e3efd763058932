pub mod Faults
pub mod Seen
pub mod Files
pub mod Transfer
pub mod Rules
