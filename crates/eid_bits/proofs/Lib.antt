pub mod Distinct
pub mod Masks
