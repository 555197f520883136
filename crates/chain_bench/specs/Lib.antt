pub mod Benched
pub mod ChainFed
pub mod ChainPieces
