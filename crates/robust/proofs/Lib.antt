pub mod Rows
pub mod Super
pub mod Table
