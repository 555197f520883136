mod Walks
pub mod Along
pub mod Ends
pub mod Faults
pub mod Idling
pub mod Paths
pub mod Received
pub mod Rounds
pub mod Scans
pub mod Padding
