pub mod Words
pub mod Numbered
pub mod Standing
pub mod Tables
