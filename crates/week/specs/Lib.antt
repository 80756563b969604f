pub mod Rules
pub mod Refusal
pub mod Tables
