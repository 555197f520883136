pub mod Commands
pub mod Image
pub mod SeedWords
