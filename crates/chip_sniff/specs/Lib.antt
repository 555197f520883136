pub mod Launched
pub mod Shown
