pub mod SectorKeys
pub mod SectorKeysIn
pub mod Identifiers
pub mod Parts
pub mod View
