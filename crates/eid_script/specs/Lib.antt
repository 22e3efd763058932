pub mod Grammar
pub mod Scripts
