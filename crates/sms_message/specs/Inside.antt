-- What a reader may pass by: no public contract cites it.
pub mod Looked
pub mod Short
pub mod Splitting
pub mod Tags
