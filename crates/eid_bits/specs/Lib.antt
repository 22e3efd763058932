pub mod Template
pub mod RightNames
pub mod Rights
pub mod Date
pub mod Dates
pub mod Identifiers
