pub mod Patches
pub mod Calls
pub mod Preparing
pub mod Leading
pub mod PrepareRises
