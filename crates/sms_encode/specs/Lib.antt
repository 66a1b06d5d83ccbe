pub mod Addresses
pub mod Drafts
pub mod Frames
pub mod Inside
pub mod Options
pub mod Units
