pub mod Addresses
pub mod Sets
pub mod Four
