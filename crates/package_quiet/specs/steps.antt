-- For contracts alone, a file for each thing that they speak of (this project's own)
pub mod Whole
pub mod Quiet
pub mod Laws
pub mod Bearing
