pub mod Digits
pub mod Showing
