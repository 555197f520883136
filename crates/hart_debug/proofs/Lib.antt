pub mod Registers
pub mod ExecutedWord
pub mod Seen
