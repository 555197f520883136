mod Counts
pub mod Ends
mod Feeding
mod Firsts
mod Loads
mod Turning
mod Tells
pub mod Timed
