pub mod ObjectFacts
pub mod AuxiliaryFacts
pub mod EntryFacts
pub mod AnnouncementFacts
