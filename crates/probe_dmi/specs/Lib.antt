pub mod Operations
pub mod Pace
pub mod Registers
pub mod Rises
