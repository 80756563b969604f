pub mod Service
pub mod Table
pub mod Judging
