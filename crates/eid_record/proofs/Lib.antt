pub mod Loop
pub mod Replaced
pub mod Stands
pub mod Again
pub mod ReadValid
