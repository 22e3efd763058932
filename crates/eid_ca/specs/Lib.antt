pub mod Rules
pub mod Protocols
pub mod Selections
pub mod Keys
pub mod States
pub mod ProveEnds
pub mod View
