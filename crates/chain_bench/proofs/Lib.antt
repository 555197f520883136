pub mod Rises
pub mod Asking
pub mod Steps
pub mod Took
pub mod Courses
pub mod Tells
pub mod AsChip
