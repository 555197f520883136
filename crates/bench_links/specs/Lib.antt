pub mod Benched
pub mod Fresh
pub mod Looped
