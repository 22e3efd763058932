pub mod Forms
pub mod Distinct
pub mod Beginnings
pub mod Sizes
pub mod Walks
pub mod ListIn
pub mod Findings
