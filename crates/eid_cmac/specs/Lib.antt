pub mod Padding
pub mod Cmac
pub mod Absorbing
pub mod Derivation
pub mod SessionKeys
