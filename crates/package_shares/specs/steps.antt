-- For contracts alone, a file for each thing that they speak of (this project's own)
pub mod Together
pub mod Packages
pub mod Requests
pub mod Laws
