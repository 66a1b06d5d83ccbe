pub mod Header
pub mod Rooms
pub mod Cut
pub mod Segments
pub mod Told
pub mod Choice
pub mod Inside
