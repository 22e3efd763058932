pub mod Trust
pub mod View
