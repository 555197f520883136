pub mod Job
pub mod Numbers
pub mod Chains
pub mod Options
pub mod WrittenJob
pub mod Why
