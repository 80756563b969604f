pub mod Dictionary
pub mod Every
pub mod Ranges
pub mod First
pub mod Lists
pub mod Scan
pub mod Search
pub mod Turn
