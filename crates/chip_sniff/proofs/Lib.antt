pub mod Bits
pub mod Scans
pub mod Signs
pub mod Stream
pub mod Updates
pub mod Benches
