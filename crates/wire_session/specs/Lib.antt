pub mod Budget
pub mod Closing
pub mod Headline
pub mod Seen
pub mod Session
pub mod WireSession
