pub mod Parties
pub mod Texts
pub mod Notes
pub mod Answers
pub mod Offers
pub mod Sets
