pub mod ImageWords
pub mod OneImage
pub mod RandomWords
pub mod Ranges
pub mod Sessions
