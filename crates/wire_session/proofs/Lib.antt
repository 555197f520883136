pub mod Headlines
pub mod StreamEnds
pub mod Loads
pub mod SessionRuns
pub mod Budgets
