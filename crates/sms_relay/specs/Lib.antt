pub mod Fault
pub mod Transaction
pub mod Cp
pub mod Rp
pub mod Carried
pub mod ReadOctets
pub mod Inside
