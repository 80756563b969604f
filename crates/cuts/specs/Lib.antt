pub mod Cut
pub mod Hopes
pub mod Moves
pub mod Reasons
