pub mod Loading
pub mod Loaded
pub mod Laws
pub mod Budget
