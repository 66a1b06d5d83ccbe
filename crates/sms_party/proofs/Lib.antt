pub mod Storing
mod PhoneRows
pub mod Waiting
pub mod OtherPhones
pub mod SenderParts
pub mod SenderStatus
pub mod SenderSteps
pub mod Few
pub mod Drops
pub mod Ended
pub mod SenderFew
pub mod Passing
