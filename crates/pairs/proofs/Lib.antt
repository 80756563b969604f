pub mod Pairs
pub mod Numbers
