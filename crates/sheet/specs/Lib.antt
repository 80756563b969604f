pub mod Moves
pub mod Sheet
pub mod History
