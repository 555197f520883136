pub mod Changes
pub mod Execution
pub mod RegisterAnswers
pub mod Stops
pub mod BufferWord
