pub mod Sets
pub mod Opens
pub mod Later
pub mod Moving
