pub mod Grouped
pub mod Words
pub mod Room
