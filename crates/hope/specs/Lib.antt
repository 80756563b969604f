pub mod Blame
pub mod Safe
