pub mod Tallies
pub mod RegisterView
