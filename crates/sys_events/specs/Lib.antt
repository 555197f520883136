pub mod Journal
pub mod Seed
