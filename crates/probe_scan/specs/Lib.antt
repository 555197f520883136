pub mod Answers
pub mod Remembered
pub mod Padded
