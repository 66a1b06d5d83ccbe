-- What a reader may pass by: no public contract cites it.
pub mod Asked
pub mod Below
pub mod Followed
pub mod NotesValue
pub mod Parties
pub mod Phones
pub mod Rows
pub mod SentPackets
pub mod Tables
pub mod TraceValue
pub mod TraceFollowed
pub mod Watching
