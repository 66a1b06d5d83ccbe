pub mod Centre
pub mod Inside
