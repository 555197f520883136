mod Asked
mod BenchPuts
mod Crossings
mod Exchanges
pub mod FreshChips
mod Lives
mod Loops
