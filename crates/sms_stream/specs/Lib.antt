pub mod Aging
pub mod Clock
pub mod Losses
pub mod Pieces
pub mod Stream
pub mod Taking
