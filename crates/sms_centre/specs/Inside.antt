-- What a reader may pass by: no public contract cites it.
pub mod Calls
pub mod Holdings
pub mod Kept
pub mod Lines
pub mod Queue
pub mod Seen
