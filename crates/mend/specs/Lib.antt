pub mod Sets
pub mod Mend
