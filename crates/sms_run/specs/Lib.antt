pub mod Inside
pub mod Machines
pub mod Runs
