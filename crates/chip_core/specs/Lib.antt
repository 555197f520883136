pub mod Counted
pub mod Fed
pub mod Feeds
pub mod Limits
pub mod Loads
pub mod Parts
pub mod Pieces
pub mod Tells
