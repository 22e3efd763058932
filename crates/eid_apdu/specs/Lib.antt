pub mod Command
pub mod Writing
pub mod Fields
pub mod Answer
pub mod Chaining
pub mod Collecting
