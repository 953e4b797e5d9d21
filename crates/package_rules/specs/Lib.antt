pub mod Asked
pub mod Said
pub mod Planned
pub mod Truth
pub mod steps
