pub mod Sinks
pub mod Effects
pub mod Lines
pub mod Sendable
