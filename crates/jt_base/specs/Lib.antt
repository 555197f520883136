pub mod BitLaws
pub mod BitList
pub mod Faults
pub mod FileStore
pub mod Files
pub mod ByteStore
pub mod Sink
pub mod Written
