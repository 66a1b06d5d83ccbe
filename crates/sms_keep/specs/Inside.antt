-- What a reader may pass by: no public contract cites it.
pub mod Plain
pub mod Restoring
pub mod SetsBack
pub mod AtOnce
pub mod Saving
