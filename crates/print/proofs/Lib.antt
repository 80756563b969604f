pub mod Put
pub mod Lines
pub mod Sizes
pub mod Plan
pub mod File
