pub mod Names
pub mod Octets
pub mod Told
pub mod Lines
pub mod Segments
pub mod Inside
