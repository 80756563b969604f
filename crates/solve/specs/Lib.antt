pub mod Service
pub mod Judging
