pub mod Works
pub mod steps
