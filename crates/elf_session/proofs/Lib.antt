pub mod Elements
pub mod Entering
pub mod LoadingSteps
pub mod Following
pub mod Plans
pub mod Laying
pub mod Budgets
