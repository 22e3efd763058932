pub mod Values
pub mod SelectionFacts
