pub mod Stream
pub mod Connection
pub mod Store
pub mod Wired
