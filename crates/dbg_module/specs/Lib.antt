pub mod Requests
pub mod Sites
pub mod Served
