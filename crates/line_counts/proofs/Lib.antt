mod Walks
mod SplitLemmas
pub mod WholeLineLemmas
mod CountLemmas
mod CleanLemmas
pub mod LineLemmas
