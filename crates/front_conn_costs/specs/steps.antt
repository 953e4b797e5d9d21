-- For contracts alone, a file for each thing that they speak of (this project's own)
pub mod Growth
pub mod Numbers
pub mod Ledgers
pub mod Conns
pub mod Laws
