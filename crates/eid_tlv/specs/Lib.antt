pub mod Objects
pub mod Reading
pub mod Parts
pub mod Lists
pub mod ListIn
