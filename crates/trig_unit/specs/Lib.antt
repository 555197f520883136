pub mod Armed
pub mod Members
pub mod Parts
