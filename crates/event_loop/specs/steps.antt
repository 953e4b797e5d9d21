-- For contracts alone, a file for each thing that they speak of (this project's own)
pub mod Places
