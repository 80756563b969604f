pub mod Pigeon
pub mod Grouped
pub mod Words
pub mod Rooms
pub mod Finds
pub mod Slices
pub mod None
