-- What a reader may pass by: no public contract cites it.
pub mod Answers
pub mod Joins
pub mod Outcomes
pub mod Runs
pub mod Shows
pub mod Statuses
pub mod Tellers
