pub mod Told
pub mod RosterView
