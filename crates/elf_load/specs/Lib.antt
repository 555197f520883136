pub mod Elements
pub mod Elf
pub mod Fields
pub mod Laws
pub mod Runs
pub mod Stores
