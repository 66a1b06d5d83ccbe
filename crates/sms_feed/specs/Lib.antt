pub mod Faults
pub mod Feed
pub mod Inside
pub mod Lines
pub mod Next
pub mod Shown
pub mod Takers
pub mod Units
