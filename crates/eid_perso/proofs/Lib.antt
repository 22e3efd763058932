pub mod FileLines
pub mod ReadFiles
pub mod Documents
pub mod ReadItems
pub mod Communities
pub mod FitPlans
