-- What a reader may pass by: no public contract cites it.
pub mod Events
pub mod NextLine
pub mod Standing
pub mod Parts
