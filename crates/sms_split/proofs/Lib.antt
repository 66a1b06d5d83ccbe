pub mod Pages
pub mod Heads
pub mod Telling
