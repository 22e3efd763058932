pub mod Keys
pub mod Parts
pub mod Replies
pub mod Commands
pub mod Plain
