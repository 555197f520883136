pub mod Feeding
pub mod Places
pub mod BenchPieces
pub mod Served
