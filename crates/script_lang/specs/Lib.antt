pub mod Argument
pub mod Cursor
pub mod Laws
pub mod Refused
pub mod Takes
