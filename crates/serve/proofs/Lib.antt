mod DriveLemmas
mod WorkedCosts
pub mod WorkingLemmas
