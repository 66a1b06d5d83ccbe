pub mod Saved
pub mod Held
pub mod Restored
pub mod Inside
