pub mod SectorKeyFacts
