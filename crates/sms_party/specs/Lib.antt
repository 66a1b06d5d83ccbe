pub mod Few
pub mod Receiver
pub mod Sent
pub mod Sender
pub mod Phone
pub mod Drops
pub mod Inside
