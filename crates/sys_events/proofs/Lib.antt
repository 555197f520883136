mod Walks
pub mod FirstWords
pub mod Pairs
pub mod Made
pub mod Rounds
pub mod Fairness
pub mod Short
