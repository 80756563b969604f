pub mod Dictionary
pub mod Every
pub mod First
pub mod Lists
pub mod Scan
