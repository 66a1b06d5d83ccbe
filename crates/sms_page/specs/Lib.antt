pub mod Hexadecimal
pub mod Page
pub mod Plain
pub mod Escapes
pub mod Object
pub mod ReadBack
pub mod Inside
