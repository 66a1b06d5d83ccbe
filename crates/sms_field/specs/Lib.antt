pub mod Bit
pub mod Field
pub mod Reading
pub mod Address
pub mod RelayAddress
pub mod Coding
pub mod Inside
pub mod Time
