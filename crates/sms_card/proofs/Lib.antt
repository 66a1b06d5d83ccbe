mod Filled
mod Fronts
pub mod Lengths
mod Whole
