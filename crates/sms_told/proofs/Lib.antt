pub mod Composed
pub mod Telephones
pub mod AddressTexts
pub mod Sequences
pub mod Walked
pub mod OldSets
