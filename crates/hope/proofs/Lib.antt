pub mod Blame
pub mod Own
pub mod Ranges
pub mod Safe
