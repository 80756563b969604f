pub mod Part
pub mod Slots
pub mod Outer
pub mod Reason
