pub mod Fnv
pub mod Parts
pub mod Content
pub mod File
pub mod Reading
