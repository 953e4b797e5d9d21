pub mod Runs
pub mod Costs
pub mod Laws
