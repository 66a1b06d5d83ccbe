mod Framed
mod PacketRead
mod Sizes
pub mod ReadMessages
