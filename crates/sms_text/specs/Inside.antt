-- What a reader may pass by: no public contract cites it.
pub mod FrontLaws
pub mod PackingLaws
pub mod Same
pub mod Spelled
pub mod TableLaws
pub mod TextLaws
pub mod Utf16Laws
pub mod Words
