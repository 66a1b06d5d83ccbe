-- Reading from left to right, with the first fault that is met.
pub mod Fields
pub mod Keys
pub mod Sets
pub mod Lists
pub mod Whole
