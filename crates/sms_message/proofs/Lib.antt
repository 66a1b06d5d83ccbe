pub mod Read
pub mod Replies
pub mod Carrying
pub mod OneMessage
pub mod EachMessage
pub mod Glances
pub mod Looks
