pub mod Break
pub mod Repair
pub mod Found
pub mod Service
