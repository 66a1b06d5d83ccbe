-- What a reader may pass by: no public contract cites it.
pub mod KeyHashes
pub mod Places
pub mod Fronts
