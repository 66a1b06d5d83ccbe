pub mod Run
pub mod Repeats
pub mod Once
pub mod Sound
pub mod Anew
pub mod InTime
pub mod Steps
