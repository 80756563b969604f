pub mod Cut
pub mod Hopes
pub mod Words
pub mod Moves
pub mod Settled
pub mod Reasons
pub mod Free
