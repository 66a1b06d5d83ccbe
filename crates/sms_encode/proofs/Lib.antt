pub mod Composed
pub mod Turns
