-- What a reader may pass by: no public contract cites it.
pub mod EscapeRules
pub mod Pairs
pub mod Place
