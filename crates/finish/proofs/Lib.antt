pub mod Next
pub mod Search
pub mod First
