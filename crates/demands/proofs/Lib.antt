pub mod Verdict
pub mod Plain
pub mod Demand1
pub mod Readings
pub mod Sets
pub mod Demand2
pub mod Demand3
pub mod Judging
